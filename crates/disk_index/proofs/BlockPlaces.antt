-- The words from a block's beginning on are read as they are in the whole file.
use Rattle.std.proofs.Common.{◌≡◌, ℕ, zero, suc, ◌+◌, ◌-◌, ◌*◌, ◌^◌, ◌<◌, ◌≤◌, true, false, cond, List, [], ◌∷◌, ◌++◌, length, drop, get_or, take, append_assoc, Result, Ok, refl, sym, ap, subst, ◌∙◌, arith}
use Rattle.std.specs.Prelude.{◌==◌, nat_lt}
use Rattle.std.proofs.lemmas.Bool.{eqb-true}
use Rattle.std.proofs.lemmas.List.{drop-drop, take-append-drop}
use Rattle.java_tree.specs.Keys.{is_before}
use Rattle.java_model.specs.IndexFile.Content.{Posting}
use Rattle.java_model.specs.IndexFile.Spelling.{next_place, posting_bytes, block_offsets, block_count}
use Rattle.java_model.specs.IndexFile.Reading.{◌>>=◌, number_at, ruled, with_start, Blocks, posting_at, blocks_at, offsets_at}
use Rattle.java_model.proofs.IndexFile.Fields.{IsBytes, IsBytes-drop, bind_ok, guard_ok, ok_is, Takes, ruled_ok}
use Rattle.java_model.proofs.IndexFile.Postings.{FitsAfter, posting_takes, posting_again, Match, blocks_take}
use Rattle.java_model.proofs.IndexFile.Offsets.{length-block_offsets}
use Rattle.disk_index.specs.Reads.{EndsWith}
use Rattle.disk_index.specs.Named.{block_bytes, from_offset, AreWords}
use Rattle.disk_index.proofs.Ends.{EndsWith-drop, EndsWith-bytes}

-- a block's first word is read without the word before it
after_none : (previous word : List ℕ) → is_before previous word ≡ true → is_before [] word ≡ true
after_none previous [] e = absurd cc
after_none previous (b ∷ word) e = refl

first_alone : (range : ℕ) (previous bytes : List ℕ) (x : Posting × List ℕ) → range ≤ 2 ^ 32 → IsBytes bytes → posting_at range 0 previous bytes ≡ Ok x → posting_at range 0 [] bytes ≡ Ok x
first_alone range previous bytes x small fits e =
    let t = posting_takes range 0 previous bytes x fits e in
    let alone : FitsAfter range 0 [] x.0 = record {
      greater = after_none previous x.0.word t.1.greater;
      key = t.1.key;
      some = t.1.some;
      numbers = t.1.numbers;
      shared_fits = t.1.shared_fits;
      suffix_fits = t.1.suffix_fits;
      numbers_fit = t.1.numbers_fit;
    } in
    ap (posting_at range 0 []) t.0.parts ∙ posting_again range 0 [] x.0 x.1 small alone

abbrev blocks_is : Blocks → Result Blocks ℕ
blocks_is b = Ok b

blocks_alone : (range n : ℕ) (previous bytes : List ℕ) (b : Blocks) → range ≤ 2 ^ 32 → IsBytes bytes → blocks_at range 0 previous n bytes ≡ Ok b → blocks_at range 0 [] n bytes ≡ Ok b
unfolding blocks_at
blocks_alone range zero previous bytes b small fits e = e
blocks_alone range (suc n) previous bytes b small fits e =
    let a = bind_ok (posting_at range 0 previous bytes) (λ posting. blocks_at range 1 posting.0.word n posting.1 >>= λ others. Ok (record { postings = posting.0 ∷ others.postings; starts = with_start 0 (length bytes) others.starts; rest = others.rest })) b e in
    rw (first_alone range previous bytes a.0 small fits a.1) a.2

-- the words from some place of the file on, where so many bytes are left
pub record WordsFrom (range count : ℕ) (postings : List Posting) (bytes : List ℕ) (left n : ℕ) : Type 0 where
  pub some : n < count
  pub rest : List ℕ
  pub inside : EndsWith bytes rest
  pub long : length rest ≡ left
  pub blocks : Blocks
  pub read : blocks_at range 0 [] (count - n) rest ≡ Ok blocks
  pub same : blocks.postings ≡ drop n postings

one_later : (range count : ℕ) (first : Posting) (postings : List Posting) (bytes text after : List ℕ) (left n : ℕ) → Takes bytes text after → WordsFrom range count postings after left n → WordsFrom range (suc count) (first ∷ postings) bytes left (suc n)
one_later range count first postings bytes text after left n takes from = record {
  some = omega (arith, from.some);
  rest = from.rest;
  inside = (text ++ from.inside.0, takes.parts ∙ ap (λ (t : List ℕ). text ++ t) from.inside.1 ∙ sym (append_assoc text from.inside.0 from.rest));
  long = from.long;
  blocks = from.blocks;
  read = (let k : suc count - suc n ≡ count - n = omega arith in ap (λ (m : ℕ). blocks_at range 0 [] m from.rest) k ∙ from.read);
  same = from.same;
}

-- how many words stand before the beginning of a block, from a place on
abbrev words_to : ℕ → ℕ → ℕ
words_to zero block = 16 * block
words_to (suc place) block = 16 * block + (15 - place)

next_first : (block : ℕ) → suc (words_to 1 block) ≡ words_to 0 (suc block)
next_first block = omega arith

next_later : (place block : ℕ) → suc place < 16 → suc (words_to (next_place (suc place)) block) ≡ words_to (suc place) block
next_later place block lt =
    elim (suc place == 15) as (λ b. (suc place == 15) ≡ b → suc (words_to (cond (suc place == 15) 0 (suc (suc place))) block) ≡ 16 * block + (15 - place)) [
      | true ↦ λ t. let last : suc place ≡ 15 = eqb-true (suc place) 15 t in rw t (omega (arith, last))
      | false ↦ λ f. let early : suc place < 15 = grind arith in rw f (omega (arith, early))
    ] refl

within_next : (place : ℕ) → place < 16 → next_place place < 16
within_next place lt =
    elim (place == 15) as (λ b. (place == 15) ≡ b → cond (place == 15) 0 (suc place) < 16) [
      | true ↦ λ t. rw t (omega arith)
      | false ↦ λ f. let early : place < 15 = grind arith in rw f (omega (arith, early))
    ] refl

made : Posting → Blocks → ℕ → List ℕ → Blocks
made first others place bytes = record { postings = first ∷ others.postings; starts = with_start place (length bytes) others.starts; rest = others.rest }

pub words_from : (range place : ℕ) (previous : List ℕ) (count : ℕ) (bytes : List ℕ) (b : Blocks) (block : ℕ) → range ≤ 2 ^ 32 → IsBytes bytes → place < 16
    → blocks_at range place previous count bytes ≡ Ok b → block < length b.starts → WordsFrom range count b.postings bytes (get_or b.starts block 0) (words_to place block)
unfolding blocks_at made
words_from range place previous zero bytes b block small fits within e inside =
    absurd (omega (arith, inside, ap (λ (x : Blocks). length x.starts) (ok_is (record { postings = []; starts = []; rest = bytes }) b e)))
words_from range place previous (suc count) bytes b block small fits within e inside =
    let a = bind_ok (posting_at range place previous bytes) (λ posting. blocks_at range (next_place place) posting.0.word count posting.1 >>= λ others. Ok (record { postings = posting.0 ∷ others.postings; starts = with_start place (length bytes) others.starts; rest = others.rest })) b e in
    let o = bind_ok (blocks_at range (next_place place) a.0.0.word count a.0.1) (λ others. Ok (record { postings = a.0.0 ∷ others.postings; starts = with_start place (length bytes) others.starts; rest = others.rest })) b a.2 in
    let is : made a.0.0 o.0 place bytes ≡ b = ok_is (record { postings = a.0.0 ∷ o.0.postings; starts = with_start place (length bytes) o.0.starts; rest = o.0.rest }) b o.2 in
    let t = posting_takes range place previous bytes a.0 fits a.1 in
    let later = λ (k : ℕ) (low : k < length o.0.starts). words_from range (next_place place) a.0.0.word count a.0.1 o.0 k small t.0.rest_fits (within_next place within) o.1 low in
    subst (λ (x : Blocks). block < length x.starts → WordsFrom range (suc count) x.postings bytes (get_or x.starts block 0) (words_to place block)) is
    (by_place place a.0.0 o.0 block within (posting_bytes place previous a.0.0) a.0.1 t.0 later (λ first. subst (λ (p : ℕ). blocks_at range p previous (suc count) bytes ≡ Ok b) first e) is) inside
  where
    by_place : (place : ℕ) (first : Posting) (others : Blocks) (block : ℕ) → place < 16 → (text after : List ℕ) → Takes bytes text after
        → ((k : ℕ) → k < length others.starts → WordsFrom range count others.postings after (get_or others.starts k 0) (words_to (next_place place) k))
        → (place ≡ 0 → blocks_at range 0 previous (suc count) bytes ≡ Ok b) → made first others place bytes ≡ b
        → block < length (with_start place (length bytes) others.starts)
        → WordsFrom range (suc count) (first ∷ others.postings) bytes (get_or (with_start place (length bytes) others.starts) block 0) (words_to place block)
    by_place zero first others zero within text after takes later whole is inside =
        let none : 0 ≡ 16 * 0 = omega arith in
        let all : suc count - 0 ≡ suc count = omega arith in
        subst (WordsFrom range (suc count) (first ∷ others.postings) bytes (length bytes)) none (record {
          some = omega arith;
          rest = bytes;
          inside = ([], refl);
          long = refl;
          blocks = b;
          read = ap (λ (n : ℕ). blocks_at range 0 [] n bytes) all ∙ blocks_alone range (suc count) previous bytes b small fits (whole refl);
          same = ap (λ (x : Blocks). x.postings) (sym is);
        })
    by_place zero first others (suc block) within text after takes later whole is inside =
        subst (WordsFrom range (suc count) (first ∷ others.postings) bytes (get_or others.starts block 0)) (next_first block)
        (one_later range count first others.postings bytes text after (get_or others.starts block 0) (words_to 1 block) takes (later block (omega arith)))
    by_place (suc place) first others block within text after takes later whole is inside =
        subst (WordsFrom range (suc count) (first ∷ others.postings) bytes (get_or others.starts block 0)) (next_later place block within)
        (one_later range count first others.postings bytes text after (get_or others.starts block 0) (words_to (next_place (suc place)) block) takes (later block inside))

-- ---- the table of offsets

-- the table's entry of a block
pub offset_of : (total : ℕ) (starts table rest : List ℕ) (block : ℕ) → offsets_at total starts table ≡ Ok rest → block < length starts
    → (x : ℕ × List ℕ) × (number_at 4 (drop (4 * block) table) ≡ Ok x) × (x.0 + get_or starts block 0 ≡ total)
unfolding offsets_at
offset_of total [] table rest block e inside = absurd (omega arith)
offset_of total (left ∷ starts) table rest block e inside =
    let a = bind_ok (ruled (λ o. o + left == total) (number_at 4) table) (λ offset. offsets_at total starts offset.1) rest e in
    let rule = ruled_ok (λ o. o + left == total) (number_at 4) table a.0 a.1 in
    by_block block inside a.0 rule.0 (eqb-true (a.0.0 + left) total rule.1) (λ k low. offset_of total starts a.0.1 rest k a.2 low)
  where
    by_block : (block : ℕ) → block < length (left ∷ starts) → (x : ℕ × List ℕ) → number_at 4 table ≡ Ok x → x.0 + left ≡ total
        → ((k : ℕ) → k < length starts → (y : ℕ × List ℕ) × (number_at 4 (drop (4 * k) x.1) ≡ Ok y) × (y.0 + get_or starts k 0 ≡ total))
        → (y : ℕ × List ℕ) × (number_at 4 (drop (4 * block) table) ≡ Ok y) × (y.0 + get_or (left ∷ starts) block 0 ≡ total)
    by_block zero inside x here sum others =
        let start : 0 ≡ 4 * 0 = omega arith in
        (x, ap (λ (n : ℕ). number_at 4 (drop n table)) (sym start) ∙ here, sum)
    by_block (suc block) inside x here sum others =
        let g = guard_ok (nat_lt (length table) 4) 0 (_, drop 4 table) x here in
        let next = others block (omega arith) in
        let moved : drop (4 * block) x.1 ≡ drop (4 * suc block) table =
        ap (λ (y : ℕ × List ℕ). drop (4 * block) y.1) (sym g.1) ∙ drop-drop (4 * block) 4 table ∙ ap (λ (n : ℕ). drop n table) (omega arith) in
        (next.0, subst (λ (l : List ℕ). number_at 4 l ≡ Ok next.0) moved next.1, next.2)

-- as many blocks begin as words need
match_long : (total : ℕ) (starts offsets : List ℕ) → Match total starts offsets → length starts ≡ length offsets
match_long total [] [] m = refl
match_long total [] (o ∷ offsets) m = absurd m
match_long total (s ∷ starts) [] m = absurd m
match_long total (s ∷ starts) (o ∷ offsets) m = ap suc (match_long total starts offsets m.1)

pub starts_long : (range count : ℕ) (bytes : List ℕ) (b : Blocks) → IsBytes bytes → blocks_at range 0 [] count bytes ≡ Ok b → length b.starts ≡ block_count count
starts_long range count bytes b fits e =
    let t = blocks_take range 0 [] count bytes b fits e in
    match_long (0 + length bytes) b.starts (block_offsets 0 0 [] b.postings) (t.offsets 0 (0 + length bytes) refl)
    ∙ length-block_offsets 0 b.postings ∙ ap block_count t.count

-- the words of a file from a block on
pub record FromBlock (range count : ℕ) (postings : List Posting) (bytes : List ℕ) (block : ℕ) : Type 0 where
  pub some : 16 * block < count
  pub blocks : Blocks
  pub read : blocks_at range 0 [] (count - 16 * block) bytes ≡ Ok blocks
  pub same : blocks.postings ≡ drop (16 * block) postings

pub from_block : (file table : List ℕ) (range count : ℕ) (postings : List Posting) (block : ℕ) → range ≤ 2 ^ 32 → IsBytes file → AreWords file table range count postings → block < block_count count
    → FromBlock range count postings (block_bytes file table block) block
from_block file table range count postings block small fits words inside =
    let bytes = drop (4 * block_count count) table in
    let table_fits : IsBytes table = EndsWith-bytes file table words.inside fits in
    let bytes_fit : IsBytes bytes = IsBytes-drop (4 * block_count count) table table_fits in
    let low : block < length words.blocks.starts = omega (arith, inside, starts_long range count bytes words.blocks bytes_fit words.read) in
    let from = words_from range 0 [] count bytes words.blocks block small bytes_fit (omega arith) words.read low in
    let offset = offset_of (length file) words.blocks.starts table words.rest block words.offsets low in
    let ends : EndsWith file from.rest = ends_with file table (drop (4 * block_count count) table) from.rest words.inside (drop_ends (4 * block_count count) table) from.inside in
    let place : length file - length from.rest ≡ offset.0.0 = omega (arith, from.long, offset.2) in
    let here : from.rest ≡ block_bytes file table block =
    sym (EndsWith-drop file from.rest ends) ∙ ap (λ (n : ℕ). drop n file) place ∙ sym (ap (from_offset file) offset.1) in
    record {
      some = from.some;
      blocks = from.blocks;
      read = subst (λ (l : List ℕ). blocks_at range 0 [] (count - 16 * block) l ≡ Ok from.blocks) here from.read;
      same = from.same ∙ ap (drop (16 * block)) words.same;
    }
  where
    drop_ends : (n : ℕ) (l : List ℕ) → EndsWith l (drop n l)
    drop_ends n l = (take n l, sym (take-append-drop n l))

    ends_with : (a b c d : List ℕ) → EndsWith a b → EndsWith b c → EndsWith c d → EndsWith a d
    ends_with a b c d x y z =
        (x.0 ++ (y.0 ++ z.0), x.1 ∙ ap (λ (t : List ℕ). x.0 ++ t) (y.1 ∙ ap (λ (t : List ℕ). y.0 ++ t) z.1 ∙ sym (append_assoc y.0 z.0 d)) ∙ sym (append_assoc x.0 (y.0 ++ z.0) d))
