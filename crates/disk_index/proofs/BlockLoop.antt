-- Reading words, numbers and offsets one after the other, as loops do.
use Rattle.std.proofs.Common.{◌≡◌, ℕ, zero, suc, ◌+◌, ◌-◌, ◌<◌, ◌≤◌, List, [], ◌∷◌, ◌++◌, length, take, drop, get_or, Bor, Result, Ok, Err, refl, sym, ap, add-one, drop-cons, subst, ◌∙◌, append_assoc, arith}
use Rattle.std.specs.Prelude.{nat_le}
use Rattle.std.proofs.lemmas.List.{append-nil}
use Rattle.std.proofs.Math.ListN.{drop_of_length-le}
use Rattle.java_model.specs.IndexFile.Content.{Posting}
use Rattle.java_model.specs.IndexFile.Spelling.{next_place}
use Rattle.java_model.specs.IndexFile.Reading.{◌>>=◌, number_at, slice_at, ruled, is_suffix, with_start, Blocks, numbers_at, posting_at, blocks_at, offsets_at}
use Rattle.disk_index.specs.declared.fault.ReadFault.{ReadFault}
use Rattle.disk_index.specs.declared.fault.ReadFault.TheVariants as faults
use Rattle.disk_index.specs.Reads.{Fails, GivesSome, Head, head_of, shared_at, word_at, count_at, head_at, entry_number_at, offset_at}

-- ---- numbers

abbrev pub with_numbers : List ℕ → Result (List ℕ × List ℕ) ℕ → Result (List ℕ × List ℕ) ℕ
with_numbers front read = read >>= λ x. Ok (front ++ x.0, x.1)

pub record NumbersSoFar (range count left low : ℕ) (start rest : List ℕ) : Type 0 where
  pub before : List ℕ
  pub same : with_numbers before (numbers_at range low left rest) ≡ numbers_at range 0 count start

pub numbers_none : (r : Result (List ℕ × List ℕ) ℕ) → with_numbers [] r ≡ r
numbers_none (Ok x) = refl
numbers_none (Err e) = refl

numbers_regroup : (front : List ℕ) (n : ℕ) (r : Result (List ℕ × List ℕ) ℕ) → with_numbers front (r >>= λ x. Ok (n ∷ x.0, x.1)) ≡ with_numbers (front ++ n ∷ []) r
numbers_regroup front n (Ok x) = ap (λ (ns : List ℕ). Ok (ns, x.1)) (simp append_assoc)
numbers_regroup front n (Err f) = refl

pub numbers_begin : (range count : ℕ) (start : List ℕ) → NumbersSoFar range count count 0 start start
numbers_begin range count start = record { before = []; same = numbers_none (numbers_at range 0 count start) }

pub numbers_next : (range count i low : ℕ) (start rest : List ℕ) (number : ℕ) (after before : List ℕ) → i < count → entry_number_at range low rest ≡ Ok (number, after)
    → with_numbers before (numbers_at range low (count - i) rest) ≡ numbers_at range 0 count start → with_numbers (before ++ number ∷ []) (numbers_at range (number + 1) (count - (i + 1)) after) ≡ numbers_at range 0 count start
unfolding numbers_at
numbers_next range count i low start rest number after before lt e same =
    let k : count - i ≡ suc (count - (i + 1)) = omega arith in
    let one : with_numbers before (numbers_at range low (count - i) rest) ≡ with_numbers (before ++ number ∷ []) (numbers_at range (suc number) (count - (i + 1)) after) =
    rw (k, e) (numbers_regroup before number (numbers_at range (suc number) (count - (i + 1)) after)) in
    let next : suc number ≡ number + 1 = omega arith in
    ap (λ (n : ℕ). with_numbers (before ++ number ∷ []) (numbers_at range n (count - (i + 1)) after)) (sym next) ∙ sym one ∙ same

pub numbers_go_on : (range count i low : ℕ) (start rest : List ℕ) (number : ℕ) (after : List ℕ) → i < count → entry_number_at range low rest ≡ Ok (number, after)
    → NumbersSoFar range count (count - i) low start rest → NumbersSoFar range count (count - (i + 1)) (number + 1) start after
numbers_go_on range count i low start rest number after lt e so_far =
    record { before = so_far.before ++ number ∷ []; same = numbers_next range count i low start rest number after so_far.before lt e so_far.same }

pub numbers_fail : (e : ReadFault) (range count i low : ℕ) (start rest : List ℕ) → i < count → Fails e (entry_number_at range low rest) → NumbersSoFar range count (count - i) low start rest → Fails e (numbers_at range 0 count start)
unfolding numbers_at
numbers_fail faults.Memory range count i low start rest lt h so_far = tt
numbers_fail (faults.Left left) range count i low start rest lt h so_far =
    let k : count - i ≡ suc (count - (i + 1)) = omega arith in
    let one : with_numbers so_far.before (numbers_at range low (count - i) rest) ≡ Err left = rw (k, h) refl in
    sym so_far.same ∙ one

pub numbers_done : (range count i low : ℕ) (start rest : List ℕ) → count ≤ i → (so_far : NumbersSoFar range count (count - i) low start rest) → numbers_at range 0 count start ≡ Ok (so_far.before, rest)
unfolding numbers_at
numbers_done range count i low start rest le so_far =
    let k : count - i ≡ 0 = omega arith in
    let one : with_numbers so_far.before (numbers_at range low (count - i) rest) ≡ Ok (so_far.before, rest) = rw k (ap (λ (ns : List ℕ). Ok (ns, rest)) (append-nil so_far.before)) in
    sym so_far.same ∙ one

-- ---- a word and its numbers

abbrev pub with_head : ℕ → Head × List ℕ → Result (Posting × List ℕ) ℕ
with_head range h = numbers_at range 0 h.0.count h.1 >>= λ numbers. Ok (record { word = h.0.word; numbers = numbers.0 }, numbers.1)

regrouped : {A B C W H E : Type 0} (a : Result A ℕ) (b : A → Result B ℕ) (w : B → W) (c : W → Result C ℕ) (h : W → C → H) (g : H → Result E ℕ)
    → (((a >>= λ x. b x >>= λ y. Ok (w y)) >>= λ v. c v >>= λ z. Ok (h v z)) >>= g) ≡ (a >>= λ x. b x >>= λ y. c (w y) >>= λ z. g (h (w y) z))
regrouped (Err e) b w c h g = refl
regrouped (Ok x) b w c h g = second (b x) w c h g
  where
    third : {C H E : Type 0} (r : Result C ℕ) (h : C → H) (g : H → Result E ℕ) → ((r >>= λ z. Ok (h z)) >>= g) ≡ (r >>= λ z. g (h z))
    third (Err e) h g = refl
    third (Ok z) h g = refl

    second : {B C W H E : Type 0} (r : Result B ℕ) (w : B → W) (c : W → Result C ℕ) (h : W → C → H) (g : H → Result E ℕ)
        → (((r >>= λ y. Ok (w y)) >>= λ v. c v >>= λ z. Ok (h v z)) >>= g) ≡ (r >>= λ y. c (w y) >>= λ z. g (h (w y) z))
    second (Err e) w c h g = refl
    second (Ok y) w c h g = third (c (w y)) (h (w y)) g

under : {A B : Type 0} (r : Result A ℕ) (f g : A → Result B ℕ) → ((x : A) → f x ≡ g x) → (r >>= f) ≡ (r >>= g)
under (Ok x) f g same = same x
under (Err e) f g same = refl

nested : {A B C : Type 0} (r : Result A ℕ) (f : A → Result B ℕ) (g : B → Result C ℕ) → ((r >>= f) >>= g) ≡ (r >>= λ x. f x >>= g)
nested (Ok x) f g = refl
nested (Err e) f g = refl

pub head_first : (range place : ℕ) (previous bytes : List ℕ) → (head_at place previous bytes >>= with_head range) ≡ posting_at range place previous bytes
unfolding posting_at head_at
head_first range place previous bytes =
    nested (shared_at place previous bytes) (λ shared. word_at place previous shared.0 shared.1 >>= λ word. count_at word.1 >>= λ count. Ok (head_of word.0 count.0, count.1)) (with_head range)
    ∙ under (shared_at place previous bytes)
    (λ shared. (word_at place previous shared.0 shared.1 >>= λ word. count_at word.1 >>= λ count. Ok (head_of word.0 count.0, count.1)) >>= with_head range)
    (λ shared. number_at 4 shared.1 >>= λ len. ruled (is_suffix place previous shared.0) (slice_at len.0) len.1 >>= λ rest. ruled (nat_le 1) (number_at 4) rest.1 >>= λ count. numbers_at range 0 count.0 count.1 >>= λ numbers. Ok (record { word = take shared.0 previous ++ rest.0; numbers = numbers.0 }, numbers.1))
    (λ shared. regrouped (number_at 4 shared.1) (λ len. ruled (is_suffix place previous shared.0) (slice_at len.0) len.1) (λ rest. (take shared.0 previous ++ rest.0, rest.1)) (λ word. count_at word.1) (λ word count. (head_of word.0 count.0, count.1)) (with_head range))

-- a word of which the first part was read, and then its numbers
pub posting_is : (range place : ℕ) (previous bytes word : List ℕ) (count : ℕ) (rest numbers after : List ℕ) → head_at place previous bytes ≡ Ok (head_of word count, rest) → numbers_at range 0 count rest ≡ Ok (numbers, after)
    → posting_at range place previous bytes ≡ Ok (record { word = word; numbers = numbers }, after)
posting_is range place previous bytes word count rest numbers after h n = sym (head_first range place previous bytes) ∙ rw (h, n) refl

pub posting_fails : (e : ReadFault) (range place : ℕ) (previous bytes : List ℕ) → Fails e (head_at place previous bytes) → Fails e (posting_at range place previous bytes)
posting_fails faults.Memory range place previous bytes h = tt
posting_fails (faults.Left left) range place previous bytes h = sym (head_first range place previous bytes) ∙ rw h refl

pub numbers_missing : (e : ReadFault) (range place : ℕ) (previous bytes word : List ℕ) (count : ℕ) (rest : List ℕ) → head_at place previous bytes ≡ Ok (head_of word count, rest) → Fails e (numbers_at range 0 count rest) → Fails e (posting_at range place previous bytes)
numbers_missing faults.Memory range place previous bytes word count rest h n = tt
numbers_missing (faults.Left left) range place previous bytes word count rest h n = sym (head_first range place previous bytes) ∙ rw (h, n) refl

-- ---- words one after the other

abbrev pub joined : List Posting → List ℕ → Result Blocks ℕ → Result Blocks ℕ
joined front starts read = read >>= λ x. Ok (record { postings = front ++ x.postings; starts = starts ++ x.starts; rest = x.rest })

pub record BlocksSoFar (range count left place : ℕ) (word start rest starts : List ℕ) : Type 0 where
  pub before : List Posting
  pub within : place < 16
  pub same : joined before starts (blocks_at range place word left rest) ≡ blocks_at range 0 [] count start

pub blocks_none : (r : Result Blocks ℕ) → joined [] [] r ≡ r
blocks_none (Ok x) = refl
blocks_none (Err e) = refl

start_first : (place left : ℕ) (starts : List ℕ) → with_start place left starts ≡ with_start place left [] ++ starts
start_first zero left starts = refl
start_first (suc place) left starts = refl

blocks_regroup : (front : List Posting) (starts : List ℕ) (posting : Posting) (place left : ℕ) (r : Result Blocks ℕ)
    → joined front starts (r >>= λ x. Ok (record { postings = posting ∷ x.postings; starts = with_start place left x.starts; rest = x.rest })) ≡ joined (front ++ posting ∷ []) (starts ++ with_start place left []) r
blocks_regroup front starts posting place left (Err e) = refl
blocks_regroup front starts posting place left (Ok x) =
    let postings : front ++ posting ∷ x.postings ≡ (front ++ posting ∷ []) ++ x.postings = sym (append_assoc front (posting ∷ []) x.postings) in
    let all : starts ++ with_start place left x.starts ≡ (starts ++ with_start place left []) ++ x.starts =
    ap (λ (t : List ℕ). starts ++ t) (start_first place left x.starts) ∙ sym (append_assoc starts (with_start place left []) x.starts) in
    λ i. Ok (record { postings = postings i; starts = all i; rest = x.rest })

pub blocks_begin : (range count : ℕ) (start : List ℕ) → BlocksSoFar range count count 0 [] start start []
blocks_begin range count start = record { before = []; within = omega arith; same = blocks_none (blocks_at range 0 [] count start) }

pub blocks_go_on : (range count i place : ℕ) (word start rest starts : List ℕ) (x : Posting × List ℕ) (new after more : List ℕ) (next : ℕ) → i < count → posting_at range place word rest ≡ Ok x → after ≡ x.1 → new ≡ x.0.word
    → more ≡ starts ++ with_start place (length rest) [] → next ≡ next_place place → next < 16
    → BlocksSoFar range count (count - i) place word start rest starts → BlocksSoFar range count (count - (i + 1)) next new start after more
unfolding blocks_at
blocks_go_on range count i place word start rest starts x new after more next lt e after-is new-is more-is next-is within so_far =
    let k : count - i ≡ suc (count - (i + 1)) = omega arith in
    let one : joined so_far.before starts (blocks_at range place word (count - i) rest) ≡ joined (so_far.before ++ x.0 ∷ []) (starts ++ with_start place (length rest) []) (blocks_at range (next_place place) x.0.word (count - (i + 1)) x.1) =
    rw (k, e) (blocks_regroup so_far.before starts x.0 place (length rest) (blocks_at range (next_place place) x.0.word (count - (i + 1)) x.1)) in
    let made : BlocksSoFar range count (count - (i + 1)) next x.0.word start x.1 (starts ++ with_start place (length rest) []) = record {
      before = so_far.before ++ x.0 ∷ [];
      within = within;
      same = ap (λ (p : ℕ). joined (so_far.before ++ x.0 ∷ []) (starts ++ with_start place (length rest) []) (blocks_at range p x.0.word (count - (i + 1)) x.1)) next-is ∙ sym one ∙ so_far.same;
    } in
    subst (λ (m : List ℕ). BlocksSoFar range count (count - (i + 1)) next new start after m) (sym more-is)
    (subst (λ (a : List ℕ). BlocksSoFar range count (count - (i + 1)) next new start a (starts ++ with_start place (length rest) [])) (sym after-is)
    (subst (λ (w : List ℕ). BlocksSoFar range count (count - (i + 1)) next w start x.1 (starts ++ with_start place (length rest) [])) (sym new-is) made))

pub blocks_next : (range count i place : ℕ) (word start rest : List ℕ) (before : List Posting) (starts : List ℕ) (x : Posting × List ℕ) (new after : List ℕ) (next : ℕ) → i < count → posting_at range place word rest ≡ Ok x → after ≡ x.1 → new ≡ x.0.word → next ≡ next_place place
    → joined before starts (blocks_at range place word (count - i) rest) ≡ blocks_at range 0 [] count start
    → joined (before ++ x.0 ∷ []) (starts ++ with_start place (length rest) []) (blocks_at range next new (count - (i + 1)) after) ≡ blocks_at range 0 [] count start
unfolding blocks_at
blocks_next range count i place word start rest before starts x new after next lt e after-is new-is next-is same =
    let k : count - i ≡ suc (count - (i + 1)) = omega arith in
    let one : joined before starts (blocks_at range place word (count - i) rest) ≡ joined (before ++ x.0 ∷ []) (starts ++ with_start place (length rest) []) (blocks_at range (next_place place) x.0.word (count - (i + 1)) x.1) =
    rw (k, e) (blocks_regroup before starts x.0 place (length rest) (blocks_at range (next_place place) x.0.word (count - (i + 1)) x.1)) in
    (λ j. joined (before ++ x.0 ∷ []) (starts ++ with_start place (length rest) []) (blocks_at range (next-is j) (new-is j) (count - (i + 1)) (after-is j))) ∙ sym one ∙ same

pub blocks_fail : (e : ReadFault) (range count i place : ℕ) (word start rest starts : List ℕ) → i < count → Fails e (posting_at range place word rest) → BlocksSoFar range count (count - i) place word start rest starts → Fails e (blocks_at range 0 [] count start)
unfolding blocks_at
blocks_fail faults.Memory range count i place word start rest starts lt h so_far = tt
blocks_fail (faults.Left left) range count i place word start rest starts lt h so_far =
    let k : count - i ≡ suc (count - (i + 1)) = omega arith in
    let one : joined so_far.before starts (blocks_at range place word (count - i) rest) ≡ Err left = rw (k, h) refl in
    sym so_far.same ∙ one

abbrev pub blocks_of : List Posting → List ℕ → List ℕ → Blocks
blocks_of postings starts rest = record { postings = postings; starts = starts; rest = rest }

pub blocks_done : (range count i place : ℕ) (word start rest starts : List ℕ) → count ≤ i → (so_far : BlocksSoFar range count (count - i) place word start rest starts) → blocks_at range 0 [] count start ≡ Ok (blocks_of so_far.before starts rest)
unfolding blocks_at
blocks_done range count i place word start rest starts le so_far =
    let k : count - i ≡ 0 = omega arith in
    let one : joined so_far.before starts (blocks_at range place word (count - i) rest) ≡ Ok (blocks_of so_far.before starts rest) =
    rw k (λ j. Ok (blocks_of (append-nil so_far.before j) (append-nil starts j) rest)) in
    sym so_far.same ∙ one

-- ---- offsets

pub offset_goes_on : (total : ℕ) (starts : List ℕ) (i left : ℕ) (table rest : List ℕ) (number : ℕ) (after : List ℕ) → i < length starts → left ≡ get_or starts i 0 → offset_at total left rest ≡ Ok (number, after)
    → offsets_at total (drop i starts) rest ≡ offsets_at total starts table → offsets_at total (drop (i + 1) starts) after ≡ offsets_at total starts table
unfolding offsets_at
offset_goes_on total starts i left table rest number after lt is e so_far =
    let cell : drop i starts ≡ left ∷ drop (i + 1) starts = rw (is, add-one) (drop-cons starts i 0 lt) in
    sym (rw (cell, e) refl) ∙ so_far

pub offset_fails : (e : ReadFault) (total : ℕ) (starts : List ℕ) (i left : ℕ) (table rest : List ℕ) → i < length starts → left ≡ get_or starts i 0 → Fails e (offset_at total left rest)
    → offsets_at total (drop i starts) rest ≡ offsets_at total starts table → Fails e (offsets_at total starts table)
unfolding offsets_at
offset_fails faults.Memory total starts i left table rest lt is h so_far = tt
offset_fails (faults.Left faulty) total starts i left table rest lt is h so_far =
    let cell : drop i starts ≡ left ∷ drop (i + 1) starts = rw (is, add-one) (drop-cons starts i 0 lt) in
    sym so_far ∙ rw (cell, h) refl

pub offsets_done : (total : ℕ) (starts : List ℕ) (i : ℕ) (table rest : List ℕ) → length starts ≤ i → offsets_at total (drop i starts) rest ≡ offsets_at total starts table → offsets_at total starts table ≡ Ok rest
unfolding offsets_at
offsets_done total starts i table rest le so_far =
    let none : drop i starts ≡ [] = drop_of_length-le starts le in
    sym so_far ∙ rw none refl

-- what reading the numbers says of the word
pub given_numbers : (r : Result (Bor (List ℕ)) ReadFault) (range place : ℕ) (previous bytes word : List ℕ) (count : ℕ) (rest : List ℕ) → head_at place previous bytes ≡ Ok (head_of word count, rest)
    → GivesSome (λ after y. after.now ≡ y.1) r (numbers_at range 0 count rest)
    → GivesSome (λ after y. (after.now ≡ y.1) × (word ≡ y.0.word)) r (posting_at range place previous bytes)
given_numbers (Ok after) range place previous bytes word count rest h given =
    ((record { word = word; numbers = given.0.0 }, given.0.1), posting_is range place previous bytes word count rest given.0.0 given.0.1 h given.1, (given.2, refl))
given_numbers (Err e) range place previous bytes word count rest h given = numbers_missing e range place previous bytes word count rest h given
