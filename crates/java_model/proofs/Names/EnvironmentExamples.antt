-- How types are numbered and named.
use Rattle.std.proofs.Common.{◌≡◌, true, false, [], ◌∷◌, Some, codes, refl}
use Rattle.java_tree.specs.declared.outline.Outline.{Outline}
use Rattle.java_model.specs.Names.Environments.{EnvDocument, Env, empty_class, object, string, type_named, type_id, is_known_package}

abbrev document : Outline → EnvDocument
document o = record { path = record { container = codes "src"; path = codes "A.java" }; outline = o }

abbrev one : Env
one = document (record { «package» = codes "p" ∷ codes "q" ∷ []; imports = []; types = empty_class (codes "A") ∷ [] }) ∷ []

object-comes-last : object one ≡ type_id 1
object-comes-last = refl

string-comes-after : string one ≡ type_id 2
string-comes-after = refl

a-is-found : type_named one (codes "p.q") (codes "A" ∷ []) ≡ Some (type_id 0)
a-is-found = refl

p-is-known : is_known_package one (codes "p" ∷ []) ≡ true
p-is-known = refl

q-is-unknown : is_known_package one (codes "q" ∷ []) ≡ false
q-is-unknown = refl
