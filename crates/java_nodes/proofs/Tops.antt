-- The top-level types of a unit.
use Rattle.std.proofs.Common.{◌≡◌, ◌+◌, ◌<◌, ℕ, suc, List, [], ◌∷◌, ◌++◌, length, get_or, map, take, refl, sym, ap, ◌∙◌, arith}
use Rattle.std.specs.List.{flat_map}
use Rattle.std.proofs.Math.Seq.{take-suc}
use Rattle.java_tree.specs.declared.unit.TopLevel.{TopLevel}
use Rattle.java_tree.specs.declared.unit.TopLevel.TheVariants as tops
use Rattle.java_model.specs.Tree.Nodes.{declaration}
use Rattle.java_model.specs.Tree.Children.{top_level}
use Rattle.java_nodes.specs.Holes.{top_holes}

pub top_declarations : (ts : List TopLevel) → flat_map top_level ts ≡ map declaration (top_holes ts)
top_declarations [] = refl
top_declarations (tops.Type brace ∷ ts) = ap (λ ns. declaration brace ∷ ns) (top_declarations ts)
top_declarations (tops.Empty ∷ ts) = top_declarations ts

one_more : (ts : List TopLevel) (t : TopLevel) → top_holes (ts ++ t ∷ []) ≡ top_holes ts ++ top_holes (t ∷ [])
one_more [] t = refl
one_more (tops.Type brace ∷ ts) t = ap (λ bs. brace ∷ bs) (one_more ts t)
one_more (tops.Empty ∷ ts) t = one_more ts t

pub holes_step : (ts : List TopLevel) (i : ℕ) (t : TopLevel) (b c : List ℕ) → i < length ts → b ≡ top_holes (take i ts)
    → c ≡ b ++ top_holes (get_or ts i t ∷ []) → c ≡ top_holes (take (i + 1) ts)
holes_step ts i t b c h e f =
    let next : i + 1 ≡ suc i = omega arith in
    f ∙ ap (λ bs. bs ++ top_holes (get_or ts i t ∷ [])) e
    ∙ sym (ap (λ n. top_holes (take n ts)) next ∙ ap top_holes (take-suc ts i t h) ∙ one_more (take i ts) (get_or ts i t))
