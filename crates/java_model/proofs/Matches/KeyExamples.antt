-- The keys of small units.
use Rattle.std.proofs.Common.{◌≡◌, ℕ, List, [], ◌∷◌, Some, None, codes, refl, lit<, map}
use Rattle.std.specs.Fmt.{digits}
use Rattle.java_tree.specs.declared.key.Category.TheVariants as categories
use Rattle.java_tree.specs.declared.names.Ident.{Ident}
use Rattle.java_tree.specs.declared.unit.TopLevel.TheVariants as tops
use Rattle.java_tree.specs.declared.unit.TypeHead.TheVariants as heads
use Rattle.java_tree.specs.declared.unit.TypePlace.TheVariants as places
use Rattle.java_tree.specs.declared.unit.Unit.{Unit as CompilationUnit}
use Rattle.java_model.specs.Tree.Nodes.{declaration, supertype}
use Rattle.java_model.specs.Matches.Keys.{node_keys, HasKey, key_of}

abbrev ident : List ℕ → Ident
ident name = record { name = name; span = record { start = 0; end = 0 } }

-- `class B extends A {}`
abbrev subclass : CompilationUnit
subclass = record {
  «package» = None;
  imports = [];
  declarations = tops.Type 18 ∷ [];
  types = record {
    parent = None;
    place = places.TopLevel;
    head = heads.Class (record { modifiers = []; name = ident (codes "B"); extends = Some (ident (codes "A") ∷ []); implements = [] });
    brace = 18;
    members = [];
  } ∷ [];
}

-- typeDecl `B//c`, superRef `A/B//e` and constructorRef `A/0` at its declaration, and ref `A` at the name behind `extends`
keys-of-a-declaration : node_keys subclass (declaration 18) ≡
    key_of categories.TypeDecl (codes "B" ∷ [] ∷ codes "c" ∷ [])
    ∷ key_of categories.SuperRef (codes "A" ∷ codes "B" ∷ [] ∷ codes "e" ∷ [])
    ∷ key_of categories.ConstructorRef (codes "A" ∷ codes "0" ∷ []) ∷ []
unfolding digits
keys-of-a-declaration = refl

text-of-a-key : map (λ k. k.text) (node_keys subclass (supertype 0 (ident (codes "A") ∷ []))) ≡ codes "A" ∷ []
text-of-a-key = refl

the-reference-is-a-key : HasKey subclass (key_of categories.Ref (codes "A" ∷ []))
the-reference-is-a-key = record { place = 0 ∷ 0 ∷ []; node = supertype 0 (ident (codes "A") ∷ []); leads = refl; gives = (0, lit< tt, refl) }
