-- Words of one name in a file.
use Rattle.std.proofs.Common.{◌≡◌, ◌⊎◌, inl, inr, ℕ, zero, suc, ◌-◌, ◌*◌, ◌^◌, ◌<◌, ◌≤◌, Bool, true, false, List, [], ◌∷◌, ◌++◌, length, take, drop, Some, Result, Ok, Err, refl, sym, ap, subst, ◌∙◌, append_assoc, take-append-drop, arith}
use Rattle.std.specs.Prelude.{◌||◌, nat_lt, nat_le, MatchResult}
use Rattle.java_tree.specs.declared.key.Category.{Category}
use Rattle.java_model.specs.IndexFile.Content.{Posting, are_postings_after}
use Rattle.java_model.specs.IndexFile.Spelling.{block_count}
use Rattle.java_model.specs.IndexFile.Reading.{◌>>=◌, number_at, slice_at, ruled, may_share, is_suffix, with_start, Blocks, numbers_at, posting_at, blocks_at, offsets_at, end_at, postings_at}
use Rattle.java_model.proofs.IndexFile.Fields.{IsBytes, bind_ok, guard_ok, ok_is, ruled_ok}
use Rattle.index_keys.specs.Fields.{AdmitsOnly}
use Rattle.disk_index.specs.declared.fault.ReadFault.{ReadFault}
use Rattle.disk_index.specs.declared.fault.ReadFault.TheVariants as faults
use Rattle.disk_index.specs.Reads.{Fails, EndsWith}
use Rattle.disk_index.specs.Named.{first_word, begins_before, is_word_before, block_bytes, Walks, AreWords, has, Finds}
use Rattle.disk_index.proofs.BlockPlaces.{from_block}
use Rattle.disk_index.proofs.NamedWords.{BeginsBefore, finds}

take_none : (n : ℕ) → take {A = ℕ} n [] ≡ []
take_none zero = refl
take_none (suc n) = refl

-- ---- the first word of a block

abbrev word_is : List ℕ → Result (List ℕ) ℕ
word_is word = Ok word

first_posting : (range : ℕ) (bytes : List ℕ) (x : Posting × List ℕ) → posting_at range 0 [] bytes ≡ Ok x → first_word bytes ≡ word_is x.0.word
unfolding posting_at
first_posting range bytes x e =
    let a = bind_ok (ruled (may_share 0 []) (number_at 4) bytes) (λ common. number_at 4 common.1 >>= λ len. ruled (is_suffix 0 [] common.0) (slice_at len.0) len.1 >>= λ suffix. ruled (nat_le 1) (number_at 4) suffix.1 >>= λ count. numbers_at range 0 count.0 count.1 >>= λ numbers. Ok (record { word = take common.0 [] ++ suffix.0; numbers = numbers.0 }, numbers.1)) x e in
    let b = bind_ok (number_at 4 a.0.1) (λ len. ruled (is_suffix 0 [] a.0.0) (slice_at len.0) len.1 >>= λ suffix. ruled (nat_le 1) (number_at 4) suffix.1 >>= λ count. numbers_at range 0 count.0 count.1 >>= λ numbers. Ok (record { word = take a.0.0 [] ++ suffix.0; numbers = numbers.0 }, numbers.1)) x a.2 in
    let c = bind_ok (ruled (is_suffix 0 [] a.0.0) (slice_at b.0.0) b.0.1) (λ suffix. ruled (nat_le 1) (number_at 4) suffix.1 >>= λ count. numbers_at range 0 count.0 count.1 >>= λ numbers. Ok (record { word = take a.0.0 [] ++ suffix.0; numbers = numbers.0 }, numbers.1)) x b.2 in
    let d = bind_ok (ruled (nat_le 1) (number_at 4) c.0.1) (λ count. numbers_at range 0 count.0 count.1 >>= λ numbers. Ok (record { word = take a.0.0 [] ++ c.0.0; numbers = numbers.0 }, numbers.1)) x c.2 in
    let n = bind_ok (numbers_at range 0 d.0.0 d.0.1) (λ numbers. Ok (record { word = take a.0.0 [] ++ c.0.0; numbers = numbers.0 }, numbers.1)) x d.2 in
    let is : take a.0.0 [] ++ c.0.0 ≡ x.0.word = ap (λ (y : Posting × List ℕ). y.0.word) (ok_is (record { word = take a.0.0 [] ++ c.0.0; numbers = n.0.0 }, n.0.1) x n.2) in
    let shared = (ruled_ok (may_share 0 []) (number_at 4) bytes a.0 a.1).0 in
    let suffix = (ruled_ok (is_suffix 0 [] a.0.0) (slice_at b.0.0) b.0.1 c.0 c.1).0 in
    let word : c.0.0 ≡ x.0.word = ap (λ (l : List ℕ). l ++ c.0.0) (sym (take_none a.0.0)) ∙ is in
    rw (shared, b.1, suffix) (ap word_is word)

first_block : (range n : ℕ) (bytes : List ℕ) (b : Blocks) (key : List ℕ) → blocks_at range 0 [] (suc n) bytes ≡ Ok b → begins_before key bytes ≡ true → BeginsBefore key b.postings
unfolding blocks_at
first_block range n bytes b key e before =
    let a = bind_ok (posting_at range 0 [] bytes) (λ posting. blocks_at range 1 posting.0.word n posting.1 >>= λ others. Ok (record { postings = posting.0 ∷ others.postings; starts = with_start 0 (length bytes) others.starts; rest = others.rest })) b e in
    let o = bind_ok (blocks_at range 1 a.0.0.word n a.0.1) (λ others. Ok (record { postings = a.0.0 ∷ others.postings; starts = with_start 0 (length bytes) others.starts; rest = others.rest })) b a.2 in
    record {
      next = a.0.0;
      others = o.0.postings;
      from-is = ap (λ (y : Blocks). y.postings) (sym (ok_is (record { postings = a.0.0 ∷ o.0.postings; starts = with_start 0 (length bytes) o.0.starts; rest = o.0.rest }) b o.2));
      before = sym (ap (is_word_before key) (first_posting range bytes a.0 a.1)) ∙ before;
    }

-- ---- a category

abbrev pub FindsOr : {X : Type 0} → (Category → List ℕ → Bool) → ℕ → List Posting → List ℕ → List ℕ → Result X ReadFault → Type 0
FindsOr admitted byte postings old new r = MatchResult r (λ _. Finds admitted byte postings old new) (λ e. e ≡ faults.Memory)

abbrev blocks_is : Blocks → Result Blocks ℕ
blocks_is b = Ok b

pub category_finds : {X : Type 0} (r : Result X ReadFault) (admitted : Category → List ℕ → Bool) (file table : List ℕ) (range count block left byte : ℕ) (name key old new : List ℕ) (postings : List Posting) → key ≡ byte ∷ name → AdmitsOnly admitted (Some name)
    → AreWords file table range count postings → are_postings_after range [] postings ≡ true → range ≤ 2 ^ 32 → IsBytes file → block < block_count count → (block ≡ 0) ⊎ (begins_before key (block_bytes file table block) ≡ true) → left ≡ count - 16 * block
    → Walks admitted key old new r (blocks_at range 0 [] left (block_bytes file table block)) → FindsOr admitted byte postings old new r
category_finds {X = X} r admitted file table range count block left byte name key old new postings key-is only words legal small fits inside before left-is walk =
    let from = from_block file table range count postings block small fits words inside in
    let read : blocks_at range 0 [] left (block_bytes file table block) ≡ blocks_is from.blocks = ap (λ (n : ℕ). blocks_at range 0 [] n (block_bytes file table block)) left-is ∙ from.read in
    by_result r from.blocks from.same (begins before from.blocks from.read from.some) (subst (λ (k : List ℕ). Walks admitted k old new r (blocks_is from.blocks)) key-is (subst (Walks admitted key old new r) read walk))
  where
    begins : (block ≡ 0) ⊎ (begins_before key (block_bytes file table block) ≡ true) → (b : Blocks) → blocks_at range 0 [] (count - 16 * block) (block_bytes file table block) ≡ Ok b → 16 * block < count → (16 * block ≡ 0) ⊎ BeginsBefore (byte ∷ name) b.postings
    begins (inl none) b e some = inl (omega (arith, none))
    begins (inr first) b e some =
        let k : count - 16 * block ≡ suc (count - 16 * block - 1) = omega arith in
        inr (subst (λ (l : List ℕ). BeginsBefore l b.postings) key-is (first_block range (count - 16 * block - 1) (block_bytes file table block) b key (sym (ap (λ (n : ℕ). blocks_at range 0 [] n (block_bytes file table block)) k) ∙ e) first))

    by_result : (r : Result X ReadFault) (b : Blocks) → b.postings ≡ drop (16 * block) postings → (16 * block ≡ 0) ⊎ BeginsBefore (byte ∷ name) b.postings → Walks admitted (byte ∷ name) old new r (blocks_is b) → FindsOr admitted byte postings old new r
    by_result (Ok x) b same starts walk = finds admitted byte name range (16 * block) postings b.postings old new only legal same starts walk
    by_result (Err faults.Memory) b same starts walk = refl
    by_result (Err (faults.Left l)) b same starts walk = absurd (never walk)
      where
        never : blocks_is b ≡ Err l → ⊥
        never e = cc

-- no word, no number
pub none_finds : (admitted : Category → List ℕ → Bool) (file table : List ℕ) (range count byte : ℕ) (postings : List Posting) (old : List ℕ) → count ≡ 0 → AreWords file table range count postings → Finds admitted byte postings old old
unfolding blocks_at
none_finds admitted file table range count byte postings old none words =
    let bytes = drop (4 * block_count count) table in
    let empty : postings ≡ [] =
    sym words.same ∙ ap (λ (b : Blocks). b.postings) (sym (ok_is (record { postings = []; starts = []; rest = bytes }) words.blocks (sym (ap (λ (n : ℕ). blocks_at range 0 [] n bytes) none) ∙ words.read))) in
    subst (λ (p : List Posting). Finds admitted byte p old old) (sym empty)
    (record { keeps = λ k h. h; all = λ k h. absurd (never h); only = λ k h. left k h })
  where
    never : false ≡ true → ⊥
    never e = cc

    left : (k : ℕ) → has old k ≡ true → (has old k || false) ≡ true
    left k h = ap (λ (b : Bool). b || false) h

-- ---- the whole file

drop_ends : (n : ℕ) (l : List ℕ) → EndsWith l (drop n l)
drop_ends n l = (take n l, sym (take-append-drop n l))

pub are_words : (file table rest : List ℕ) (range words count : ℕ) (postings : List Posting) → number_at 4 rest ≡ Ok (count, table) → rest ≡ drop words file → postings_at (length file) range (drop words file) ≡ Ok postings → AreWords file table range count postings
unfolding postings_at
are_words file table rest range words count postings first rest-is e =
    let bytes = drop words file in
    let here : number_at 4 bytes ≡ Ok (count, table) = ap (number_at 4) (sym rest-is) ∙ first in
    let a = bind_ok (number_at 4 bytes) (λ c. slice_at (4 * block_count c.0) c.1 >>= λ offsets. blocks_at range 0 [] c.0 offsets.1 >>= λ blocks. offsets_at (length file) blocks.starts c.1 >>= λ checked. end_at blocks.rest >>= λ ended. Ok blocks.postings) postings e in
    let is : a.0 ≡ (count, table) = ok_is a.0 (count, table) (sym a.1 ∙ here) in
    after (subst (λ (c : ℕ × List ℕ). (slice_at (4 * block_count c.0) c.1 >>= λ offsets. blocks_at range 0 [] c.0 offsets.1 >>= λ blocks. offsets_at (length file) blocks.starts c.1 >>= λ checked. end_at blocks.rest >>= λ ended. Ok blocks.postings) ≡ Ok postings) is a.2) here
  where
    after : (slice_at (4 * block_count count) table >>= λ offsets. blocks_at range 0 [] count offsets.1 >>= λ blocks. offsets_at (length file) blocks.starts table >>= λ checked. end_at blocks.rest >>= λ ended. Ok blocks.postings) ≡ Ok postings
        → number_at 4 (drop words file) ≡ Ok (count, table) → AreWords file table range count postings
    after e here =
        let b = bind_ok (slice_at (4 * block_count count) table) (λ offsets. blocks_at range 0 [] count offsets.1 >>= λ blocks. offsets_at (length file) blocks.starts table >>= λ checked. end_at blocks.rest >>= λ ended. Ok blocks.postings) postings e in
        let c = bind_ok (blocks_at range 0 [] count b.0.1) (λ blocks. offsets_at (length file) blocks.starts table >>= λ checked. end_at blocks.rest >>= λ ended. Ok blocks.postings) postings b.2 in
        let d = bind_ok (offsets_at (length file) c.0.starts table) (λ checked. end_at c.0.rest >>= λ ended. Ok c.0.postings) postings c.2 in
        let f = bind_ok (end_at c.0.rest) (λ ended. Ok c.0.postings) postings d.2 in
        let g = guard_ok (nat_lt (length table) (4 * block_count count)) 0 (take (4 * block_count count) table, drop (4 * block_count count) table) b.0 b.1 in
        let h = guard_ok (nat_lt (length (drop words file)) 4) 0 (_, drop 4 (drop words file)) (count, table) here in
        let ends : EndsWith file (drop 4 (drop words file)) = join file (drop words file) (drop 4 (drop words file)) (drop_ends words file) (drop_ends 4 (drop words file)) in
        record {
          blocks = c.0;
          rest = d.0;
          read = ap (λ (y : List ℕ × List ℕ). blocks_at range 0 [] count y.1) g.1 ∙ c.1;
          offsets = d.1;
          inside = subst (λ (y : ℕ × List ℕ). EndsWith file y.1) h.1 ends;
          same = ok_is c.0.postings postings f.2;
        }
      where
        join : (a b c : List ℕ) → EndsWith a b → EndsWith b c → EndsWith a c
        join a b c x y = (x.0 ++ y.0, x.1 ∙ ap (λ (t : List ℕ). x.0 ++ t) y.1 ∙ sym (append_assoc x.0 y.0 c))

abbrev number_is : ℕ × List ℕ → Result (ℕ × List ℕ) ℕ
number_is x = Ok x

-- words that are there have a count
pub never_cut : (e : ReadFault) (total range : ℕ) (bytes : List ℕ) (postings : List Posting) → Fails e (number_at 4 bytes) → postings_at total range bytes ≡ Ok postings → e ≡ faults.Memory
unfolding postings_at
never_cut faults.Memory total range bytes postings h e = refl
never_cut (faults.Left l) total range bytes postings h e =
    let a = bind_ok (number_at 4 bytes) (λ c. slice_at (4 * block_count c.0) c.1 >>= λ offsets. blocks_at range 0 [] c.0 offsets.1 >>= λ blocks. offsets_at total blocks.starts c.1 >>= λ checked. end_at blocks.rest >>= λ ended. Ok blocks.postings) postings e in
    absurd (never a.0 (sym a.1 ∙ h))
  where
    never : (x : ℕ × List ℕ) → number_is x ≡ Err l → ⊥
    never x e = cc
