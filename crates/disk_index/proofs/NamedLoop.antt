-- A walk over words that stops at the first one past a key.
use Rattle.std.proofs.Common.{◌≡◌, ℕ, suc, ◌+◌, ◌-◌, ◌<◌, ◌≤◌, Bool, true, cond, List, [], ◌∷◌, ◌++◌, length, Result, Ok, Err, refl, sym, ap, subst, ◌∙◌, append_assoc, arith}
use Rattle.std.proofs.lemmas.List.{append-nil}
use Rattle.java_tree.specs.declared.key.Category.{Category}
use Rattle.java_model.specs.IndexFile.Content.{Posting}
use Rattle.java_model.specs.IndexFile.Spelling.{next_place}
use Rattle.java_model.specs.IndexFile.Reading.{◌>>=◌, Blocks, with_start, numbers_at, posting_at, blocks_at}
use Rattle.java_model.proofs.IndexFile.Fields.{bind_ok, ok_is}
use Rattle.disk_index.specs.declared.fault.ReadFault.{ReadFault}
use Rattle.disk_index.specs.Reads.{Fails, Head, head_of, head_at, entry_number_at, admits_word, noted_in, noted}
use Rattle.disk_index.specs.Named.{is_past, Visits, Walks}
use Rattle.disk_index.proofs.BlockLoop.{NumbersSoFar, numbers_none, numbers_next, with_head, head_first, joined, blocks_none, blocks_next, blocks_fail, blocks_of, posting_is, posting_fails, numbers_missing}
use Rattle.disk_index.proofs.QueryLoop.{noted-snoc}

-- ---- numbers

pub record AddingSoFar (range count left low : ℕ) (start rest old hits : List ℕ) : Type 0 where
  pub so_far : NumbersSoFar range count left low start rest
  pub added : hits ≡ old ++ so_far.before

pub adding_begins : (range count : ℕ) (start old : List ℕ) → AddingSoFar range count (count - 0) 0 start start old old
adding_begins range count start old =
    let all : count - 0 ≡ count = omega arith in
    record {
      so_far = record { before = []; same = numbers_none (numbers_at range 0 (count - 0) start) ∙ ap (λ (n : ℕ). numbers_at range 0 n start) all };
      added = sym (append-nil old);
    }

pub adding_goes_on : (range count i low : ℕ) (start rest old hits new : List ℕ) (number : ℕ) (after : List ℕ) → i < count → entry_number_at range low rest ≡ Ok (number, after) → new ≡ hits ++ number ∷ []
    → AddingSoFar range count (count - i) low start rest old hits → AddingSoFar range count (count - (i + 1)) (number + 1) start after old new
adding_goes_on range count i low start rest old hits new number after lt e pushed adding = record {
  so_far = record { before = adding.so_far.before ++ number ∷ []; same = numbers_next range count i low start rest number after adding.so_far.before lt e adding.so_far.same };
  added = pushed ∙ ap (λ (l : List ℕ). l ++ number ∷ []) adding.added ∙ append_assoc old adding.so_far.before (number ∷ []);
}

-- ---- words

pub record WalkSoFar (admitted : Category → List ℕ → Bool) (range count left place : ℕ) (word start rest old hits : List ℕ) : Type 0 where
  pub before : List Posting
  pub starts : List ℕ
  pub within : place < 16
  pub same : joined before starts (blocks_at range place word left rest) ≡ blocks_at range 0 [] count start
  pub added : hits ≡ old ++ noted admitted before

pub walk_begins : (admitted : Category → List ℕ → Bool) (range count : ℕ) (word start old : List ℕ) → word ≡ [] → WalkSoFar admitted range count (count - 0) 0 word start start old old
walk_begins admitted range count word start old none =
    let all : count - 0 ≡ count = omega arith in
    record {
      before = [];
      starts = [];
      within = omega arith;
      same = blocks_none (blocks_at range 0 word (count - 0) start) ∙ ap (λ (n : ℕ). blocks_at range 0 word n start) all ∙ ap (λ (w : List ℕ). blocks_at range 0 w count start) none;
      added = sym (append-nil old);
    }

-- one word more, of which the first part and then the numbers were read
pub walk_goes_on : (admitted : Category → List ℕ → Bool) (range count i place : ℕ) (word start rest old hits : List ℕ) (chosen : Bool) (new : List ℕ) (many : ℕ) (first : List ℕ) (numbers : List ℕ × List ℕ) (after more : List ℕ) (next : ℕ) → i < count
    → head_at place word rest ≡ Ok (head_of new many, first) → numbers_at range 0 many first ≡ Ok numbers → chosen ≡ admits_word admitted new → after ≡ numbers.1 → more ≡ hits ++ cond chosen numbers.0 []
    → next ≡ next_place place → next < 16
    → WalkSoFar admitted range count (count - i) place word start rest old hits → WalkSoFar admitted range count (count - (i + 1)) next new start after old more
walk_goes_on admitted range count i place word start rest old hits chosen new many first numbers after more next lt head read chosen-is after-is more-is next-is within so_far =
    let posting : Posting = record { word = new; numbers = numbers.0 } in
    let x : posting_at range place word rest ≡ Ok (posting, numbers.1) = posting_is range place word rest new many first numbers.0 numbers.1 head read in
    record {
      before = so_far.before ++ posting ∷ [];
      starts = so_far.starts ++ with_start place (length rest) [];
      within = within;
      same = blocks_next range count i place word start rest so_far.before so_far.starts (posting, numbers.1) new after next lt x after-is refl next-is so_far.same;
      added =
          more-is ∙ (λ j. so_far.added j ++ cond (chosen-is j) numbers.0 []) ∙ append_assoc old (noted admitted so_far.before) (noted_in admitted posting)
          ∙ ap (λ (l : List ℕ). old ++ l) (sym (noted-snoc admitted so_far.before posting));
    }

fails_whole : (e : ReadFault) (admitted : Category → List ℕ → Bool) (range count i place : ℕ) (word start rest old hits : List ℕ) → i < count → Fails e (posting_at range place word rest)
    → WalkSoFar admitted range count (count - i) place word start rest old hits → Fails e (blocks_at range 0 [] count start)
fails_whole e admitted range count i place word start rest old hits lt h so_far =
    blocks_fail e range count i place word start rest so_far.starts lt h (record { before = so_far.before; within = so_far.within; same = so_far.same })

pub walk_fails : (e : ReadFault) (admitted : Category → List ℕ → Bool) (range count i place : ℕ) (word start rest old hits : List ℕ) → i < count
    → Fails e (head_at place word rest) → WalkSoFar admitted range count (count - i) place word start rest old hits → Fails e (blocks_at range 0 [] count start)
walk_fails e admitted range count i place word start rest old hits lt h so_far =
    fails_whole e admitted range count i place word start rest old hits lt (posting_fails e range place word rest h) so_far

pub walk_cut : (e : ReadFault) (admitted : Category → List ℕ → Bool) (range count i place : ℕ) (word start rest old hits new : List ℕ) (many : ℕ) (first : List ℕ) → i < count
    → head_at place word rest ≡ Ok (head_of new many, first) → Fails e (numbers_at range 0 many first) → WalkSoFar admitted range count (count - i) place word start rest old hits → Fails e (blocks_at range 0 [] count start)
walk_cut e admitted range count i place word start rest old hits new many first lt head h so_far =
    fails_whole e admitted range count i place word start rest old hits lt (numbers_missing e range place word rest new many first head h) so_far

-- a reading that was joined to what stands before it
joined_ok : (front : List Posting) (starts : List ℕ) (r : Result Blocks ℕ) (b : Blocks) → joined front starts r ≡ Ok b → (x : Blocks) × (r ≡ Ok x) × (b.postings ≡ front ++ x.postings)
joined_ok front starts (Ok x) b e = (x, refl, ap (λ (y : Blocks). y.postings) (sym (ok_is (blocks_of (front ++ x.postings) (starts ++ x.starts) x.rest) b e)))
joined_ok front starts (Err d) b e = absurd cc

abbrev pub returned : {X : Type 0} → X → Result X ReadFault
returned x = Ok x

done_with : {X : Type 0} (x : X) (admitted : Category → List ℕ → Bool) (key old hits : List ℕ) (read : Result Blocks ℕ) → ((b : Blocks) → read ≡ Ok b → Visits admitted key b.postings old hits) → Walks admitted key old hits (returned x) read
done_with x admitted key old hits (Ok b) visits = visits b refl
done_with x admitted key old hits (Err d) visits = tt

-- all words were looked at
pub walk_ends : {X : Type 0} (x : X) (admitted : Category → List ℕ → Bool) (key : List ℕ) (range count i place : ℕ) (word start rest old hits : List ℕ) → count ≤ i
    → WalkSoFar admitted range count (count - i) place word start rest old hits → Walks admitted key old hits (returned x) (blocks_at range 0 [] count start)
unfolding blocks_at
walk_ends x admitted key range count i place word start rest old hits le so_far =
    let k : count - i ≡ 0 = omega arith in
    done_with x admitted key old hits (blocks_at range 0 [] count start) (λ b e.
    let j = joined_ok so_far.before so_far.starts (blocks_at range place word (count - i) rest) b (so_far.same ∙ e) in
    let none : blocks_of [] [] rest ≡ j.0 = ok_is (blocks_of [] [] rest) j.0 (sym (ap (λ (n : ℕ). blocks_at range place word n rest) k) ∙ j.1) in
    record {
      visited = so_far.before;
      skipped = [];
      all = j.2 ∙ ap (λ (y : Blocks). so_far.before ++ y.postings) (sym none);
      past = tt;
      added = so_far.added;
    })

-- a word past the key was found
pub walk_stops : {X : Type 0} (x : X) (admitted : Category → List ℕ → Bool) (key : List ℕ) (range count i place : ℕ) (word start rest old hits new : List ℕ) (many : ℕ) (first : List ℕ) → i < count → head_at place word rest ≡ Ok (head_of new many, first)
    → is_past key new ≡ true → WalkSoFar admitted range count (count - i) place word start rest old hits → Walks admitted key old hits (returned x) (blocks_at range 0 [] count start)
unfolding blocks_at
walk_stops x admitted key range count i place word start rest old hits new many first lt head past so_far =
    let k : count - i ≡ suc (count - (i + 1)) = omega arith in
    done_with x admitted key old hits (blocks_at range 0 [] count start) (λ b e.
    let j = joined_ok so_far.before so_far.starts (blocks_at range place word (count - i) rest) b (so_far.same ∙ e) in
    let a = bind_ok (posting_at range place word rest) (λ posting. blocks_at range (next_place place) posting.0.word (count - (i + 1)) posting.1 >>= λ others. Ok (record { postings = posting.0 ∷ others.postings; starts = with_start place (length rest) others.starts; rest = others.rest })) j.0 (sym (ap (λ (n : ℕ). blocks_at range place word n rest) k) ∙ j.1) in
    let o = bind_ok (blocks_at range (next_place place) a.0.0.word (count - (i + 1)) a.0.1) (λ others. Ok (record { postings = a.0.0 ∷ others.postings; starts = with_start place (length rest) others.starts; rest = others.rest })) j.0 a.2 in
    let made : a.0.0 ∷ o.0.postings ≡ j.0.postings = ap (λ (y : Blocks). y.postings) (ok_is (blocks_of (a.0.0 ∷ o.0.postings) (with_start place (length rest) o.0.starts) o.0.rest) j.0 o.2) in
    record {
      visited = so_far.before;
      skipped = a.0.0 ∷ o.0.postings;
      all = j.2 ∙ ap (λ (l : List Posting). so_far.before ++ l) (sym made);
      past = subst (λ (w : List ℕ). is_past key w ≡ true) (sym (word_is a.0 a.1)) past;
      added = so_far.added;
    })
  where
    word_is : (p : Posting × List ℕ) → posting_at range place word rest ≡ Ok p → p.0.word ≡ new
    word_is p e =
        let read : (head_at place word rest >>= with_head range) ≡ Ok p = head_first range place word rest ∙ e in
        let after : with_head range (head_of new many, first) ≡ Ok p = sym (ap (λ (r : Result (Head × List ℕ) ℕ). r >>= with_head range) head) ∙ read in
        let n = bind_ok (numbers_at range 0 many first) (λ numbers. Ok (record { word = new; numbers = numbers.0 }, numbers.1)) p after in
        ap (λ (y : Posting × List ℕ). y.0.word) (sym (ok_is (_, n.0.1) p n.2))
