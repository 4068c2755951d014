use Rattle.std.proofs.Common.{◌≡◌, ℕ, ◌||◌, ◌==◌, Bool, true, false, List, get_or, length, sym, ap, ◌∙◌}
use Rattle.std.specs.Str.{bytes_eq}
use Rattle.java_model.specs.Lexical.Words.{is_listed, added_keywords, is_reserved}
use Rattle.java_scan.proofs.WordLaws.{any-map, reserved_from, reserved_nothing, empty_word}
use Rattle.java_scan.proofs.words.is_reserved.Goals as goal

pub returns-then-is_empty : goal.returns-then-is_empty
returns-then-is_empty c =
    let none : (length c.args.word.now == 0) ≡ true = ap (λ (bs : List ℕ). length bs == 0) (sym c.as_bytes-bytes.ensures.value) ∙ (sym c.is_empty.ensures ∙ c.if-is_empty.true) in
    sym (ap (is_reserved c.args.level) (empty_word c.args.word.now none) ∙ reserved_nothing c.args.level)

pub returns-then-is_one_of : goal.returns-then-is_one_of
returns-then-is_one_of c =
    let word = c.args.word.now in
    let some : (length word == 0) ≡ false = ap (λ (bs : List ℕ). length bs == 0) (sym c.as_bytes-bytes.ensures.value) ∙ (sym c.is_empty.ensures ∙ c.if-is_empty.false) in
    let first : get_or word 0 0 ≡ get_or c.as_bytes-bytes.result.now 0 0 = ap (λ (bs : List ℕ). get_or bs 0 0) (sym c.as_bytes-bytes.ensures.value) in
    let e = reserved_from c.args.level word (get_or c.as_bytes-bytes.result.now 0 0) some first in
    let any = c.is_one_of.ensures ∙ (sym (any-map (λ (w : List ℕ). bytes_eq w word) (λ w. w.now) c.reserved_words_from.result.now) ∙ ap (λ (ws : List (List ℕ)). is_listed ws word) c.reserved_words_from.ensures) in
    c.if-is_one_of.true ∙ (sym (ap (λ (a : Bool). a || is_listed (added_keywords c.args.level) word) (sym any ∙ c.if-is_one_of.true)) ∙ e)

pub returns-else-is_one_of : goal.returns-else-is_one_of
returns-else-is_one_of c =
    let word = c.args.word.now in
    let some : (length word == 0) ≡ false = ap (λ (bs : List ℕ). length bs == 0) (sym c.as_bytes-bytes.ensures.value) ∙ (sym c.is_empty.ensures ∙ c.if-is_empty.false) in
    let first : get_or word 0 0 ≡ get_or c.as_bytes-bytes.result.now 0 0 = ap (λ (bs : List ℕ). get_or bs 0 0) (sym c.as_bytes-bytes.ensures.value) in
    let e = reserved_from c.args.level word (get_or c.as_bytes-bytes.result.now 0 0) some first in
    let any = c.is_one_of.ensures ∙ (sym (any-map (λ (w : List ℕ). bytes_eq w word) (λ w. w.now) c.reserved_words_from.result.now) ∙ ap (λ (ws : List (List ℕ)). is_listed ws word) c.reserved_words_from.ensures) in
    c.is_added.ensures ∙ (sym (ap (λ (a : Bool). a || is_listed (added_keywords c.args.level) word) (sym any ∙ c.if-is_one_of.false)) ∙ e)
