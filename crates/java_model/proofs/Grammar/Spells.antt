-- Which tokens pieces spell.
use Rattle.std.proofs.Common.{ℕ, List, [], ◌∷◌, ◌++◌, map, refl}
use Rattle.java_tree.specs.declared.unit.TypeDecl.{TypeDecl}
use Rattle.java_model.specs.Grammar.Signs.{Sign}
use Rattle.java_model.specs.Grammar.Pieces.{Piece, token, hole}
use Rattle.java_model.specs.Grammar.Units.{Stage, stage, Spells, spells_nothing, spells_token, spells_type}

-- tokens spell themselves
pub spells_signs : (xs : List Sign) (ps : List Piece) (n : ℕ) (types : List TypeDecl) (ts : List Sign) (t : Stage)
    → Spells ps (stage n types ts) t → Spells (map token xs ++ ps) (stage n types (xs ++ ts)) t
spells_signs [] ps n types ts t h = h
spells_signs (x ∷ xs) ps n types ts t h = spells_token x (map token xs ++ ps) (xs ++ ts) _ t refl (spells_signs xs ps n types ts t h)

-- what stands from one stage to another and from there to a third stands from the first to the third
pub spells_both : (ps qs : List Piece) (s m t : Stage) → Spells ps s m → Spells qs m t → Spells (ps ++ qs) s t
spells_both [] qs s m t (spells_nothing _) h = h
spells_both (token x ∷ ps) qs s m t (spells_token _ _ tokens _ _ e g) h = spells_token x (ps ++ qs) tokens s t e (spells_both ps qs _ m t g h)
spells_both (hole k ∷ ps) qs s m t (spells_type _ _ d types _ l _ e shape g rest) h = spells_type k (ps ++ qs) d types s l t e shape g (spells_both ps qs l m t rest h)
