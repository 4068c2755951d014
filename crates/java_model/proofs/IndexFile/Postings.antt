-- Words that are read are those that were spelled, and the other way round.
use Rattle.std.proofs.Common.{◌≡◌, ℕ, zero, suc, ◌+◌, ◌^◌, ◌<◌, ◌≤◌, true, List, [], ◌∷◌, ◌++◌, length, take, Ok, refl, sym, ap, subst, ◌∙◌, append_assoc, arith}
use Rattle.std.specs.Prelude.{◌&&◌, nat_lt, nat_le}
use Rattle.std.proofs.lemmas.Bool.{ltb-true}
use Rattle.std.proofs.lemmas.List.{length-append}
use Rattle.byteorder.specs.Endian.{big_bytes}
use Rattle.java_tree.specs.Keys.{is_before, is_word}
use Rattle.java_model.specs.IndexFile.Content.{Posting, are_numbers_from, are_postings_after}
use Rattle.java_model.specs.IndexFile.Spelling.{shared, suffix, numbers_bytes, posting_bytes, postings_bytes, next_place, block_offsets, fit_fields}
use Rattle.java_model.specs.IndexFile.Reading.{◌>>=◌, number_at, slice_at, ruled, may_share, may_follow, is_suffix, numbers_at, posting_at, Blocks, with_start, blocks_at}
use Rattle.java_model.proofs.IndexFile.Tests.{and_left, and_right, and_both}
use Rattle.java_model.proofs.IndexFile.Fields.{IsBytes, bind_ok, ok_is, Takes, Takes-then, wide_4, number_takes, number_again, slice_takes, slice_again, ruled_ok, ruled_again}
use Rattle.java_model.proofs.IndexFile.Entries.{numbers_take, numbers_again}
use Rattle.java_model.proofs.IndexFile.Words.{Spelled, spelled, respelled}

lt_test : (a b : ℕ) → a < b → nat_lt a b ≡ true
lt_test a b lt = grind arith

-- what a word with its entries is after a previous word
pub record FitsAfter (range place : ℕ) (previous : List ℕ) (posting : Posting) : Type 0 where
  pub greater : is_before previous posting.word ≡ true
  pub key : is_word posting.word ≡ true
  pub some : nat_le 1 (length posting.numbers) ≡ true
  pub numbers : are_numbers_from range 0 posting.numbers ≡ true
  pub shared_fits : nat_lt (shared place previous posting.word) (2 ^ 32) ≡ true
  pub suffix_fits : nat_lt (length (suffix place previous posting.word)) (2 ^ 32) ≡ true
  pub numbers_fit : nat_lt (length posting.numbers) (2 ^ 32) ≡ true

-- the fields of a word, each read
made_takes : (range place : ℕ) (previous bytes : List ℕ) (n len : ℕ) (rest0 rest1 rest : List ℕ) (rest2 : List ℕ) (count : ℕ) (rest3 : List ℕ) (numbers rest4 : List ℕ)
    → Takes bytes (big_bytes 4 n) rest0 → n < 2 ^ 32 → Takes rest0 (big_bytes 4 len) rest1 → len < 2 ^ 32 → Takes rest1 rest rest2 → length rest ≡ len
    → Takes rest2 (big_bytes 4 count) rest3 → count < 2 ^ 32 → Takes rest3 (numbers_bytes numbers) rest4 → length numbers ≡ count
    → may_share place previous n ≡ true → is_suffix place previous n rest ≡ true → nat_le 1 count ≡ true → are_numbers_from range 0 numbers ≡ true
    → Takes bytes (posting_bytes place previous (record { word = take n previous ++ rest; numbers = numbers })) rest4 × FitsAfter range place previous (record { word = take n previous ++ rest; numbers = numbers })
made_takes range place previous bytes n len rest0 rest1 rest rest2 count rest3 numbers rest4 t0 n_fits t1 len_fits t2 len-is t3 count_fits t4 count-is share follow some in_range =
    let follows = and_left (may_follow place previous n rest) (is_word (take n previous ++ rest)) follow in
    let key = and_right (may_follow place previous n rest) (is_word (take n previous ++ rest)) follow in
    let word : Spelled place previous n rest = spelled place previous n rest share follows in
    let t34 = Takes-then rest2 (big_bytes 4 count) rest3 (numbers_bytes numbers) rest4 t3 t4 in
    let t24 = Takes-then rest1 rest rest2 (big_bytes 4 count ++ numbers_bytes numbers) rest4 t2 t34 in
    let t14 = Takes-then rest0 (big_bytes 4 len) rest1 (rest ++ (big_bytes 4 count ++ numbers_bytes numbers)) rest4 t1 t24 in
    let t04 = Takes-then bytes (big_bytes 4 n) rest0 (big_bytes 4 len ++ (rest ++ (big_bytes 4 count ++ numbers_bytes numbers))) rest4 t0 t14 in
    let by_count : Takes bytes (big_bytes 4 n ++ (big_bytes 4 (length rest) ++ (rest ++ (big_bytes 4 (length numbers) ++ numbers_bytes numbers)))) rest4 = rw (len-is, count-is) t04 in
    let counted : List ℕ = big_bytes 4 (length numbers) ++ numbers_bytes numbers in
    let whole : List ℕ = take n previous ++ rest in
    let by_rest : Takes bytes (big_bytes 4 n ++ (big_bytes 4 (length (suffix place previous whole)) ++ (suffix place previous whole ++ counted))) rest4 =
    subst (λ (r : List ℕ). Takes bytes (big_bytes 4 n ++ (big_bytes 4 (length r) ++ (r ++ counted))) rest4) (sym word.rest-is) by_count in (
      subst (λ (k : ℕ). Takes bytes (big_bytes 4 k ++ (big_bytes 4 (length (suffix place previous whole)) ++ (suffix place previous whole ++ counted))) rest4) (sym word.n-is) by_rest,
      record {
        greater = word.greater;
        key = key;
        some = rw count-is some;
        numbers = in_range;
        shared_fits = subst (λ (k : ℕ). nat_lt k (2 ^ 32) ≡ true) (sym word.n-is) (lt_test n (2 ^ 32) n_fits);
        suffix_fits = subst (λ (r : List ℕ). nat_lt (length r) (2 ^ 32) ≡ true) (sym word.rest-is) (subst (λ (k : ℕ). nat_lt k (2 ^ 32) ≡ true) (sym len-is) (lt_test len (2 ^ 32) len_fits));
        numbers_fit = subst (λ (k : ℕ). nat_lt k (2 ^ 32) ≡ true) (sym count-is) (lt_test count (2 ^ 32) count_fits);
      },
    )

pub posting_takes : (range place : ℕ) (previous bytes : List ℕ) (x : Posting × List ℕ) → IsBytes bytes → posting_at range place previous bytes ≡ Ok x → Takes bytes (posting_bytes place previous x.0) x.1 × FitsAfter range place previous x.0
unfolding posting_at
posting_takes range place previous bytes x fits e =
    let a = bind_ok (ruled (may_share place previous) (number_at 4) bytes) (λ common. number_at 4 common.1 >>= λ len. ruled (is_suffix place previous common.0) (slice_at len.0) len.1 >>= λ rest. ruled (nat_le 1) (number_at 4) rest.1 >>= λ count. numbers_at range 0 count.0 count.1 >>= λ numbers. Ok (record { word = take common.0 previous ++ rest.0; numbers = numbers.0 }, numbers.1)) x e in
    let b = bind_ok (number_at 4 a.0.1) (λ len. ruled (is_suffix place previous a.0.0) (slice_at len.0) len.1 >>= λ rest. ruled (nat_le 1) (number_at 4) rest.1 >>= λ count. numbers_at range 0 count.0 count.1 >>= λ numbers. Ok (record { word = take a.0.0 previous ++ rest.0; numbers = numbers.0 }, numbers.1)) x a.2 in
    let d = bind_ok (ruled (is_suffix place previous a.0.0) (slice_at b.0.0) b.0.1) (λ rest. ruled (nat_le 1) (number_at 4) rest.1 >>= λ count. numbers_at range 0 count.0 count.1 >>= λ numbers. Ok (record { word = take a.0.0 previous ++ rest.0; numbers = numbers.0 }, numbers.1)) x b.2 in
    let f = bind_ok (ruled (nat_le 1) (number_at 4) d.0.1) (λ count. numbers_at range 0 count.0 count.1 >>= λ numbers. Ok (record { word = take a.0.0 previous ++ d.0.0; numbers = numbers.0 }, numbers.1)) x d.2 in
    let g = bind_ok (numbers_at range 0 f.0.0 f.0.1) (λ numbers. Ok (record { word = take a.0.0 previous ++ d.0.0; numbers = numbers.0 }, numbers.1)) x f.2 in
    let share = ruled_ok (may_share place previous) (number_at 4) bytes a.0 a.1 in
    let rest = ruled_ok (is_suffix place previous a.0.0) (slice_at b.0.0) b.0.1 d.0 d.1 in
    let some = ruled_ok (nat_le 1) (number_at 4) d.0.1 f.0 f.1 in
    let t0 = number_takes 4 (2 ^ 32) wide_4 bytes a.0 fits share.0 in
    let t1 = number_takes 4 (2 ^ 32) wide_4 a.0.1 b.0 t0.0.rest_fits b.1 in
    let t2 = slice_takes b.0.0 b.0.1 d.0 t1.0.rest_fits rest.0 in
    let t3 = number_takes 4 (2 ^ 32) wide_4 d.0.1 f.0 t2.0.rest_fits some.0 in
    let t4 = numbers_take range 0 f.0.0 f.0.1 g.0 t3.0.rest_fits g.1 in
    let made = made_takes range place previous bytes a.0.0 b.0.0 a.0.1 b.0.1 d.0.0 d.0.1 f.0.0 f.0.1 g.0.0 g.0.1 t0.0 t0.1 t1.0 t1.1 t2.0 t2.1 t3.0 t3.1 t4.0 t4.1 share.1 rest.1 some.1 t4.2 in
    subst (λ (y : Posting × List ℕ). Takes bytes (posting_bytes place previous y.0) y.1 × FitsAfter range place previous y.0) (ok_is (record { word = take a.0.0 previous ++ d.0.0; numbers = g.0.0 }, g.0.1) x g.2) made

pub posting_again : (range place : ℕ) (previous : List ℕ) (posting : Posting) (after : List ℕ) → range ≤ 2 ^ 32 → FitsAfter range place previous posting → posting_at range place previous (posting_bytes place previous posting ++ after) ≡ Ok (posting, after)
unfolding posting_at
posting_again range place previous posting after small fits =
    let n = shared place previous posting.word in
    let rest = suffix place previous posting.word in
    let word = respelled place previous posting.word fits.greater in
    let numbers = numbers_bytes posting.numbers ++ after in
    let counted = big_bytes 4 (length posting.numbers) ++ numbers in
    let regrouped : posting_bytes place previous posting ++ after ≡ big_bytes 4 n ++ (big_bytes 4 (length rest) ++ (rest ++ counted)) = simp append_assoc in
    let share = ruled_again (may_share place previous) (number_at 4) (big_bytes 4 n ++ (big_bytes 4 (length rest) ++ (rest ++ counted))) (n, big_bytes 4 (length rest) ++ (rest ++ counted)) (number_again 4 (2 ^ 32) wide_4 n (big_bytes 4 (length rest) ++ (rest ++ counted)) (ltb-true n (2 ^ 32) fits.shared_fits)) word.share in
    let len = number_again 4 (2 ^ 32) wide_4 (length rest) (rest ++ counted) (ltb-true (length rest) (2 ^ 32) fits.suffix_fits) in
    let key : is_word (take n previous ++ rest) ≡ true = rw word.word-is fits.key in
    let follow = ruled_again (is_suffix place previous n) (slice_at (length rest)) (rest ++ counted) (rest, counted) (slice_again rest counted (length rest) refl) (and_both (may_follow place previous n rest) (is_word (take n previous ++ rest)) word.follow key) in
    let some = ruled_again (nat_le 1) (number_at 4) counted (length posting.numbers, numbers) (number_again 4 (2 ^ 32) wide_4 (length posting.numbers) numbers (ltb-true (length posting.numbers) (2 ^ 32) fits.numbers_fit)) fits.some in
    let those = numbers_again range 0 posting.numbers after small fits.numbers in
    ap (posting_at range place previous) regrouped ∙ rw (share, len, follow, some, those) (ap (λ (w : List ℕ). Ok (record { word = w; numbers = posting.numbers }, after)) word.word-is)

-- ---- words one after the other, and where their blocks begin

-- the bytes left at a block's beginning, and its offset, are all bytes together
abbrev pub Match : ℕ → List ℕ → List ℕ → Type 0
Match total [] [] = Unit {0}
Match total [] (offset ∷ offsets) = ⊥
Match total (left ∷ starts) [] = ⊥
Match total (left ∷ starts) (offset ∷ offsets) = (offset + left ≡ total) × Match total starts offsets

match_step : (place at total left : ℕ) (previous : List ℕ) (posting : Posting) (postings : List Posting) (starts : List ℕ) → at + left ≡ total
    → Match total starts (block_offsets (at + length (posting_bytes place previous posting)) (next_place place) posting.word postings)
    → Match total (with_start place left starts) (block_offsets at place previous (posting ∷ postings))
match_step zero at total left previous posting postings starts e m = (e, m)
match_step (suc place) at total left previous posting postings starts e m = m

legal_parts : (range place : ℕ) (previous : List ℕ) (posting : Posting) (postings : List Posting) → are_postings_after range previous (posting ∷ postings) ≡ true → fit_fields place previous (posting ∷ postings) ≡ true
    → FitsAfter range place previous posting × (are_postings_after range posting.word postings ≡ true) × (fit_fields (next_place place) posting.word postings ≡ true)
legal_parts range place previous posting postings legal fields =
    let before = is_before previous posting.word in
    let key = is_word posting.word in
    let some = nat_le 1 (length posting.numbers) in
    let numbers = are_numbers_from range 0 posting.numbers in
    let l4 = and_left (before && key && some && numbers) (are_postings_after range posting.word postings) legal in
    let l3 = and_left (before && key && some) numbers l4 in
    let l2 = and_left (before && key) some l3 in
    let sh = nat_lt (shared place previous posting.word) (2 ^ 32) in
    let su = nat_lt (length (suffix place previous posting.word)) (2 ^ 32) in
    let nu = nat_lt (length posting.numbers) (2 ^ 32) in
    let f3 = and_left (sh && su && nu) (fit_fields (next_place place) posting.word postings) fields in
    let f2 = and_left (sh && su) nu f3 in (
      record {
        greater = and_left before key l2;
        key = and_right before key l2;
        some = and_right (before && key) some l3;
        numbers = and_right (before && key && some) numbers l4;
        shared_fits = and_left sh su f2;
        suffix_fits = and_right sh su f2;
        numbers_fit = and_right (sh && su) nu f3;
      },
      and_right (before && key && some && numbers) (are_postings_after range posting.word postings) legal,
      and_right (sh && su && nu) (fit_fields (next_place place) posting.word postings) fields,
    )

legal_whole : (range place : ℕ) (previous : List ℕ) (posting : Posting) (postings : List Posting) → FitsAfter range place previous posting → are_postings_after range posting.word postings ≡ true → fit_fields (next_place place) posting.word postings ≡ true
    → (are_postings_after range previous (posting ∷ postings) ≡ true) × (fit_fields place previous (posting ∷ postings) ≡ true)
legal_whole range place previous posting postings fits legal fields =
    let before = is_before previous posting.word in
    let key = is_word posting.word in
    let some = nat_le 1 (length posting.numbers) in
    let numbers = are_numbers_from range 0 posting.numbers in
    let sh = nat_lt (shared place previous posting.word) (2 ^ 32) in
    let su = nat_lt (length (suffix place previous posting.word)) (2 ^ 32) in
    let nu = nat_lt (length posting.numbers) (2 ^ 32) in (
      and_both (before && key && some && numbers) (are_postings_after range posting.word postings) (and_both (before && key && some) numbers (and_both (before && key) some (and_both before key fits.greater fits.key) fits.some) fits.numbers) legal,
      and_both (sh && su && nu) (fit_fields (next_place place) posting.word postings) (and_both (sh && su) nu (and_both sh su fits.shared_fits fits.suffix_fits) fits.numbers_fit) fields,
    )

-- what was read of words
pub record ReadBlocks (range place : ℕ) (previous : List ℕ) (n : ℕ) (bytes : List ℕ) (x : Blocks) : Type 0 where
  pub takes : Takes bytes (postings_bytes place previous x.postings) x.rest
  pub count : length x.postings ≡ n
  pub legal : are_postings_after range previous x.postings ≡ true
  pub fields : fit_fields place previous x.postings ≡ true
  pub offsets : (at total : ℕ) → at + length bytes ≡ total → Match total x.starts (block_offsets at place previous x.postings)

pub blocks_take : (range place : ℕ) (previous : List ℕ) (n : ℕ) (bytes : List ℕ) (x : Blocks) → IsBytes bytes → blocks_at range place previous n bytes ≡ Ok x → ReadBlocks range place previous n bytes x
unfolding blocks_at
blocks_take range place previous zero bytes x fits e =
    subst (λ (y : Blocks). ReadBlocks range place previous 0 bytes y) (ok_is (record { postings = []; starts = []; rest = bytes }) x e)
    (record { takes = record { parts = refl; rest_fits = fits }; count = refl; legal = refl; fields = refl; offsets = λ at total t. tt })
blocks_take range place previous (suc n) bytes x fits e =
    let a = bind_ok (posting_at range place previous bytes) (λ posting. blocks_at range (next_place place) posting.0.word n posting.1 >>= λ others. Ok (record { postings = posting.0 ∷ others.postings; starts = with_start place (length bytes) others.starts; rest = others.rest })) x e in
    let b = bind_ok (blocks_at range (next_place place) a.0.0.word n a.0.1) (λ others. Ok (record { postings = a.0.0 ∷ others.postings; starts = with_start place (length bytes) others.starts; rest = others.rest })) x a.2 in
    let first = posting_takes range place previous bytes a.0 fits a.1 in
    let second = blocks_take range (next_place place) a.0.0.word n a.0.1 b.0 first.0.rest_fits b.1 in
    let whole = legal_whole range place previous a.0.0 b.0.postings first.1 second.legal second.fields in
    subst (λ (y : Blocks). ReadBlocks range place previous (suc n) bytes y) (ok_is (record { postings = a.0.0 ∷ b.0.postings; starts = with_start place (length bytes) b.0.starts; rest = b.0.rest }) x b.2)
    (record {
      takes = Takes-then bytes (posting_bytes place previous a.0.0) a.0.1 (postings_bytes (next_place place) a.0.0.word b.0.postings) b.0.rest first.0 second.takes;
      count = ap suc second.count;
      legal = whole.0;
      fields = whole.1;
      offsets = λ at total t. match_step place at total (length bytes) previous a.0.0 b.0.postings b.0.starts t
          (second.offsets (at + length (posting_bytes place previous a.0.0)) total (omega (arith, t, ap length first.0.parts, length-append (posting_bytes place previous a.0.0) a.0.1)));
    })

-- words that are read again
pub record ReadAgain (range place : ℕ) (previous : List ℕ) (postings : List Posting) (rest : List ℕ) : Type 0 where
  pub starts : List ℕ
  pub read : blocks_at range place previous (length postings) (postings_bytes place previous postings ++ rest) ≡ Ok (record { postings = postings; starts = starts; rest = rest })
  pub offsets : (at total : ℕ) → at + length (postings_bytes place previous postings ++ rest) ≡ total → Match total starts (block_offsets at place previous postings)

pub blocks_again : (range place : ℕ) (previous : List ℕ) (postings : List Posting) (rest : List ℕ) → range ≤ 2 ^ 32 → are_postings_after range previous postings ≡ true → fit_fields place previous postings ≡ true → ReadAgain range place previous postings rest
unfolding blocks_at
blocks_again range place previous [] rest small legal fields = record { starts = []; read = refl; offsets = λ at total t. tt }
blocks_again range place previous (posting ∷ postings) rest small legal fields =
    let parts = legal_parts range place previous posting postings legal fields in
    let others = blocks_again range (next_place place) posting.word postings rest small parts.1 parts.2 in
    let first = posting_bytes place previous posting in
    let after = postings_bytes (next_place place) posting.word postings ++ rest in
    let regrouped : (first ++ postings_bytes (next_place place) posting.word postings) ++ rest ≡ first ++ after = append_assoc first (postings_bytes (next_place place) posting.word postings) rest in
    let len : length ((first ++ postings_bytes (next_place place) posting.word postings) ++ rest) ≡ length first + length after = ap length regrouped ∙ length-append first after in
    let made : blocks_at range place previous (suc (length postings)) (first ++ after) ≡ Ok (record { postings = posting ∷ postings; starts = with_start place (length (first ++ after)) others.starts; rest = rest }) =
    rw (posting_again range place previous posting after small parts.0, others.read) refl in
    record {
      starts = with_start place (length (first ++ after)) others.starts;
      read = ap (blocks_at range place previous (suc (length postings))) regrouped ∙ made;
      offsets = λ at total t. match_step place at total (length (first ++ after)) previous posting postings others.starts (omega (arith, t, ap length regrouped))
          (others.offsets (at + length first) total (omega (arith, t, len)));
    }
