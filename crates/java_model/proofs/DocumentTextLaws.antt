-- The environment of documents is unique.
use Rattle.std.proofs.Common.{[], ◌∷◌, refl, ap, ◌∙◌}
use Rattle.java_tree.specs.declared.outline.Outline.{Outline}
use Rattle.java_model.specs.Documents.{Document}
use Rattle.java_model.specs.Names.Environments.{EnvDocument}
use Rattle.java_model.specs.DocumentTexts.{level_of, path_of, no_documents, unreadable, readable, EnvironmentsAreUnique}

abbrev outlined : Document → Outline → EnvDocument
outlined d o = record { path = path_of d; outline = o }

pub environments-unique : EnvironmentsAreUnique
environments-unique one levels [] e f no_documents no_documents = refl
environments-unique one levels (d ∷ docs) e f (unreadable _ _ _ u h) (unreadable _ _ _ v k) = environments-unique one levels docs e f h k
environments-unique one levels (d ∷ docs) e f (unreadable _ _ _ u h) (readable _ o _ env v k) = absurd (u v.unit v.is_unit)
environments-unique one levels (d ∷ docs) e f (readable _ o _ env v h) (unreadable _ _ _ u k) = absurd (u v.unit v.is_unit)
environments-unique one levels (d ∷ docs) e f (readable _ o _ env u h) (readable _ p _ fnv v k) =
    ap (λ x. outlined d x ∷ env) (one (level_of levels d) d.text o p u v) ∙ ap (λ xs. outlined d p ∷ xs) (environments-unique one levels docs env fnv h k)
