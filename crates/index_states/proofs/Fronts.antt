-- Fields written over the front of some bytes, one after another.
use Rattle.std.proofs.Common.{◌≡◌, ℕ, ◌+◌, ◌-◌, ◌<◌, ◌≤◌, List, [], ◌∷◌, ◌++◌, length, take, drop, set, sym, ◌∙◌, ap, arith, length-append, length-drop}
use Rattle.std.proofs.lemmas.List.{take_at, drop_at, take_all, drop_all, drop-drop, append-nil, set_split}
use borrow.Rule.Slice.PartMut.{put_mid}

-- what stands after the front was written by a call on the rest
pub put_after : (n m total : ℕ) (buf front body old new : List ℕ) → buf ≡ front ++ drop n old → length front ≡ n → n + m ≤ length old → total ≡ n + m
    → new ≡ body ++ drop m (take (length buf - n) (drop n buf)) → put_mid n (length buf - n) buf new ≡ front ++ (body ++ drop total old)
put_after n m total buf front body old new is_buf long fits sum is_new =
    let whole : length buf ≡ length old = omega (arith, ap length is_buf, length-append front (drop n old), length-drop n old) in
    let first : take n buf ≡ front = ap (take n) is_buf ∙ take_at front (drop n old) n long in
    let rest : drop n buf ≡ drop n old = ap (drop n) is_buf ∙ drop_at front (drop n old) n long in
    let all : take (length buf - n) (drop n buf) ≡ drop n old = take_all (length buf - n) (drop n buf) (omega (arith, length-drop n buf)) ∙ rest in
    let tail : drop m (take (length buf - n) (drop n buf)) ≡ drop total old = ap (drop m) all ∙ drop-drop m n old ∙ ap (λ (k : ℕ). drop k old) (sym sum) in
    let ends : drop (length buf - n) (drop n buf) ≡ [] = drop_all (length buf - n) (drop n buf) (omega (arith, length-drop n buf)) in
    ap (λ (l : List ℕ). l ++ (new ++ drop (length buf - n) (drop n buf))) first ∙ ap (λ (l : List ℕ). front ++ (new ++ l)) ends ∙ ap (λ (l : List ℕ). front ++ l) (append-nil new)
    ∙ ap (λ (l : List ℕ). front ++ l) (is_new ∙ ap (λ (l : List ℕ). body ++ l) tail)

pub set_first : (bytes : List ℕ) (b : ℕ) → 0 < length bytes → set bytes 0 b ≡ (b ∷ []) ++ drop 1 bytes
set_first bytes b some = set_split bytes 0 b some
