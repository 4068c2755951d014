-- What parts of a unit leave in scope, one part more.
use Rattle.std.proofs.Common.{◌≡◌, ◌+◌, ◌<◌, ℕ, suc, List, [], ◌∷◌, ◌++◌, map, length, take, drop, get_or, sym, ap, ◌∙◌, arith, append_assoc, drop-cons}
use Rattle.std.proofs.Math.Seq.{take-suc}
use Rattle.std.proofs.lemmas.List.{map-append}
use Rattle.java_tree.specs.declared.bound.Bound.{Bound}
use Rattle.java_tree.specs.declared.names.TypeUse.{TypeUse}
use Rattle.java_tree.specs.declared.stmt.BlockStatement.{BlockStatement}
use Rattle.java_tree.specs.declared.stmt.Variable.{Variable}
use Rattle.java_model.specs.Tree.InStatements.{block_statement}
use Rattle.java_model.specs.Scopes.Contexts.{Context}
use Rattle.java_model.specs.Scopes.Scoping.{leaves_each, leaves_one, local_variable}
use Rattle.java_scope.proofs.TypeBounds.{same_variable}

pub each_more : (C : Context) (s s' before : List Bound) (xs : List BlockStatement) (i : ℕ) (x : BlockStatement) → i < length xs → x ≡ get_or xs i x
    → s' ≡ s ++ leaves_one C s (block_statement x) → s ++ leaves_each C s (map block_statement (drop i xs)) ≡ before
    → s' ++ leaves_each C s' (map block_statement (drop (i + 1) xs)) ≡ before
each_more C s s' before xs i x h is pushed so =
    let more : i + 1 ≡ suc i = omega arith in
    let its : List Bound = leaves_one C s (block_statement x) in
    ap (λ t. t ++ leaves_each C t (map block_statement (drop (i + 1) xs))) pushed
    ∙ append_assoc s its (leaves_each C (s ++ its) (map block_statement (drop (i + 1) xs)))
    ∙ ap (λ m. s ++ (its ++ leaves_each C (s ++ its) (map block_statement (drop m xs)))) more
    ∙ sym (ap (λ ys. s ++ leaves_each C s (map block_statement ys)) (drop-cons xs i x h ∙ ap (λ y. y ∷ drop (suc i) xs) (sym is)))
    ∙ so

pub locals_more : (C : Context) (s s1 s2 : List Bound) (of : TypeUse) (vs : List Variable) (i : ℕ) (v : Variable) → i < length vs → v ≡ get_or vs i v
    → s1 ≡ s ++ map (local_variable C s of) (take i vs) → s2 ≡ s1 ++ local_variable C s1 of v ∷ [] → s2 ≡ s ++ map (local_variable C s of) (take (i + 1) vs)
locals_more C s s1 s2 of vs i v h is so pushed =
    let more : i + 1 ≡ suc i = omega arith in
    let own : Variable → Bound = local_variable C s of in
    pushed ∙ ap (λ t. t ++ local_variable C t of v ∷ []) so
    ∙ ap (λ b. (s ++ map own (take i vs)) ++ b ∷ []) (same_variable C s of (take i vs) v)
    ∙ append_assoc s (map own (take i vs)) (own v ∷ [])
    ∙ ap (λ ys. s ++ ys) (sym (map-append own (take i vs) (v ∷ [])))
    ∙ ap (λ x. s ++ map own (take i vs ++ x ∷ [])) is
    ∙ sym (ap (λ ys. s ++ map own ys) (ap (λ m. take m vs) more ∙ take-suc vs i v h))
