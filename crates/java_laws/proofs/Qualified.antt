-- The key of a type of a unit has the name and the qualification that the type has in its environment.
use Rattle.std.proofs.Common.{◌≡◌, ℕ, zero, suc, ◌||◌, Bool, true, false, cond, List, [], ◌∷◌, ◌++◌, Option, Some, None, map, length, drop, reverse, slice_get, inl, refl, sym, ap, ◌∙◌, subst}
use Rattle.std.specs.List.{AllByRecursion, list_any}
use Rattle.std.specs.Option.{option_map_or, option_and_then, option_to_list}
use Rattle.std.specs.Str.{byte}
use Rattle.std.proofs.lemmas.List.{reverse-reverse}
use Rattle.java_tree.specs.declared.key.Category.TheVariants as categories
use Rattle.java_tree.specs.declared.key.Key.{Key}
use Rattle.java_tree.specs.declared.occurrence.Binding.TheVariants as bindings
use Rattle.java_tree.specs.declared.occurrence.OccKind.TheVariants as occ
use Rattle.java_tree.specs.declared.occurrence.Occurrence.{Occurrence}
use Rattle.java_tree.specs.declared.outline.OutlineType.{OutlineType}
use Rattle.java_tree.specs.declared.names.Ident.{Ident}
use Rattle.java_tree.specs.declared.unit.TypeDecl.{TypeDecl}
use Rattle.java_tree.specs.declared.unit.TypeHead.{TypeHead}
use Rattle.java_tree.specs.declared.unit.TypeHead.TheVariants as heads
use Rattle.java_tree.specs.declared.unit.TypePlace.{TypePlace}
use Rattle.java_tree.specs.declared.unit.TypePlace.TheVariants as places
use Rattle.java_tree.specs.declared.unit.Unit.{Unit as CompilationUnit}
use Rattle.java_model.specs.Grammar.Pieces.{Hole}
use Rattle.java_model.specs.Grammar.Units.{IsHead}
use Rattle.java_model.specs.Outlines.{IsOutline, IsOutlineType, AreOutlineTypes, headed, package_name}
use Rattle.java_model.specs.Outlines as outlines
use Rattle.java_model.specs.Names.Lists.{Identifier, with_dots}
use Rattle.java_model.specs.Names.Environments.{Declared, declared_at, outward, type_in, around, is_anonymous, is_local, is_unqualified}
use Rattle.java_model.specs.Scopes.Contexts.{Context, numbered_id}
use Rattle.java_model.specs.Occurrences.References.{mention}
use Rattle.java_model.specs.Occurrences.Declarations.{simple_name, type_declaration}
use Rattle.java_model.specs.Matches.TypePatterns.{enclosing_names, qualification_of}
use Rattle.java_model.specs.Matches.Admits.{key_qualification}
use Rattle.java_model.specs.Matches.Keys.{key_of, around_type, is_in_block, is_local_type, qualification, type_key, super_key, head_keys}
use Rattle.java_model.specs.Matches.Laws.{IsField, IsDeclarationKey, of_type}
use Rattle.java_laws.specs.Declarations.{IsContext}
use Rattle.java_laws.proofs.Numbers.{has-place, one_of}
use Rattle.java_laws.proofs.Shapes.{IsShaped}
use Rattle.java_laws.proofs.NodeKeys.{Had, left-had}
use Rattle.java_laws.proofs.Declares.{HasDeclarationKey, AllDeclared}

-- A TYPE AND ITS OUTLINE, each by the same number
Alike : CompilationUnit → Option TypeDecl → Option OutlineType → Type 0
Alike u (Some t) (Some o) = IsOutlineType u t o × IsShaped t
Alike u None None = Unit {0}
Alike u _ _ = ⊥

alike : (u : CompilationUnit) (ts : List TypeDecl) (os : List OutlineType) → AreOutlineTypes u ts os → AllByRecursion IsShaped ts
    → (n : ℕ) → Alike u (slice_get ts n) (slice_get os n)
unfolding Alike
alike u [] [] h s n = tt
alike u [] (o ∷ os) h s n = absurd h
alike u (t ∷ ts) [] h s n = absurd h
alike u (t ∷ ts) (o ∷ os) h s zero = (h.0, s.0)
alike u (t ∷ ts) (o ∷ os) h s (suc n) = alike u ts os h.1 s.1 n

as-long : (u : CompilationUnit) (ts : List TypeDecl) (os : List OutlineType) → AreOutlineTypes u ts os → length os ≡ length ts
as-long u [] [] h = refl
as-long u [] (o ∷ os) h = absurd h
as-long u (t ∷ ts) [] h = absurd h
as-long u (t ∷ ts) (o ∷ os) h = ap suc (as-long u ts os h.1)

parent-alike : (u : CompilationUnit) (a : Option TypeDecl) (b : Option OutlineType) → Alike u a b
    → option_and_then (λ o. o.parent) b ≡ option_and_then (λ t. t.parent) a
unfolding Alike
parent-alike u (Some t) (Some o) h = ap (λ x. x.parent) h.0.is
parent-alike u None None h = refl
parent-alike u (Some t) None h = absurd h
parent-alike u None (Some o) h = absurd h

head-name : (h : Hole) (head : TypeHead) → (headed h head).name ≡ simple_name head
head-name h (heads.Class c) = refl
head-name h (heads.Interface i) = refl
head-name h heads.Anonymous = refl

name-alike : (u : CompilationUnit) (a : Option TypeDecl) (b : Option OutlineType) → Alike u a b
    → option_map_or (λ o. o.name) b [] ≡ option_map_or (λ t. simple_name t.head) a []
unfolding Alike
name-alike u (Some t) (Some o) h = ap (λ x. x.name) h.0.is ∙ head-name h.0.hole t.head
name-alike u None None h = refl
name-alike u (Some t) None h = absurd h
name-alike u None (Some o) h = absurd h

-- A class in a block is local or anonymous by its place and by its head.
in-block : (hole : Hole) (place : TypePlace) (head : TypeHead) → IsHead place head
    → (outlines.is_local place || is_anonymous (headed hole head).kind) ≡ is_in_block place
in-block hole places.TopLevel (heads.Class c) h = refl
in-block hole places.TopLevel (heads.Interface i) h = refl
in-block hole places.TopLevel heads.Anonymous h = absurd h
in-block hole places.Member (heads.Class c) h = refl
in-block hole places.Member (heads.Interface i) h = refl
in-block hole places.Member heads.Anonymous h = absurd h
in-block hole places.Local head h = refl
in-block hole places.Anonymous heads.Anonymous h = refl
in-block hole places.Anonymous (heads.Class c) h = absurd h
in-block hole places.Anonymous (heads.Interface i) h = absurd h

local-alike : (u : CompilationUnit) (a : Option TypeDecl) (b : Option OutlineType) → Alike u a b
    → option_map_or is_local b false ≡ option_map_or (λ t. is_in_block t.place) a false
unfolding Alike
local-alike u (Some t) (Some o) h = ap is_local h.0.is ∙ in-block h.0.hole t.place t.head h.1.head
local-alike u None None h = refl
local-alike u (Some t) None h = absurd h
local-alike u None (Some o) h = absurd h

-- THE TYPES AROUND
outward-alike : (f g : ℕ → Option ℕ) → ((n : ℕ) → f n ≡ g n) → (d : ℕ) (o : Option ℕ) → outward f d o ≡ outward g d o
outward-alike f g e zero o = refl
outward-alike f g e (suc d) None = refl
outward-alike f g e (suc d) (Some n) = ap (λ ns. n ∷ ns) (ap (outward f d) (e n) ∙ outward-alike f g e d (g n))

map-alike : {X : Type 0} (f g : ℕ → X) → ((n : ℕ) → f n ≡ g n) → (ns : List ℕ) → map f ns ≡ map g ns
map-alike f g e [] = refl
map-alike f g e (n ∷ ns) = ap (λ x. x ∷ map f ns) (e n) ∙ ap (λ xs. g n ∷ xs) (map-alike f g e ns)

any-alike : (f g : ℕ → Bool) → ((n : ℕ) → f n ≡ g n) → (ns : List ℕ) → list_any f ns ≡ list_any g ns
any-alike f g e [] = refl
any-alike f g e (n ∷ ns) = ap (λ x. x || list_any f ns) (e n) ∙ ap (λ x. g n || x) (any-alike f g e ns)

drop-map : {X : Type 0} (f : ℕ → X) (ns : List ℕ) → drop 1 (map f ns) ≡ map f (drop 1 ns)
drop-map f [] = refl
drop-map f (n ∷ ns) = refl

-- THE KEY
record Known (u : CompilationUnit) (C : Context) (n : ℕ) (d : Declared) : Type 0 where
  local : is_unqualified d ≡ is_local_type u.types n
  names : d.outline.«package» ++ enclosing_names d ≡ qualification u n

known : (u : CompilationUnit) (C : Context) → IsContext u C → AllByRecursion IsShaped u.types → (n : ℕ) (d : Declared) → d.outline ≡ C.outline
    → d.number ≡ n → Known u C n d
known u C c s n d out number =
    let o = c.outlined in
    let each = alike u u.types C.outline.types o.types s in
    let ns = around_type u.types n in
    let f : ℕ → Identifier = λ m. option_map_or (λ t. t.name) (slice_get C.outline.types m) [] in
    let g : ℕ → Identifier = λ m. option_map_or (λ t. simple_name t.head) (slice_get u.types m) [] in
    let around_is : around d ≡ ns =
    ap (λ x. outward (λ m. option_and_then (λ t. t.parent) (slice_get x.types m)) (length x.types) (Some d.number)) out
    ∙ ap (λ m. outward (λ m. option_and_then (λ t. t.parent) (slice_get C.outline.types m)) (length C.outline.types) (Some m)) number
    ∙ ap (λ k. outward (λ m. option_and_then (λ t. t.parent) (slice_get C.outline.types m)) k (Some n)) (as-long u u.types C.outline.types o.types)
    ∙ outward-alike (λ m. option_and_then (λ t. t.parent) (slice_get C.outline.types m)) (λ m. option_and_then (λ t. t.parent) (slice_get u.types m))
    (λ m. parent-alike u (slice_get u.types m) (slice_get C.outline.types m) (each m)) (length u.types) (Some n) in
    let mapped : map (λ m. option_map_or (λ t. t.name) (type_in d m) []) (around d) ≡ map g ns =
    ap (λ x. map (λ m. option_map_or (λ t. t.name) (slice_get x.types m) []) (around d)) out ∙ ap (map f) around_is
    ∙ map-alike f g (λ m. name-alike u (slice_get u.types m) (slice_get C.outline.types m) (each m)) ns in
    let enclosing : enclosing_names d ≡ reverse (map g (drop 1 ns)) =
    ap (λ xs. reverse (drop 1 xs)) (reverse-reverse (map (λ m. option_map_or (λ t. t.name) (type_in d m) []) (around d)))
    ∙ ap (λ xs. reverse (drop 1 xs)) mapped ∙ ap reverse (drop-map g ns) in
    record {
      local = ap (λ x. list_any (λ m. option_map_or is_local (slice_get x.types m) false) (around d)) out
          ∙ ap (list_any (λ m. option_map_or is_local (slice_get C.outline.types m) false)) around_is
          ∙ any-alike (λ m. option_map_or is_local (slice_get C.outline.types m) false)
          (λ m. option_map_or (λ t. is_in_block t.place) (slice_get u.types m) false)
          (λ m. local-alike u (slice_get u.types m) (slice_get C.outline.types m) (each m)) ns;
      names = ap (λ x. x.«package» ++ enclosing_names d) out ∙ ap (λ x. x ++ enclosing_names d) o.in_package
          ∙ ap (λ x. package_name u.«package» ++ x) enclosing;
    }

-- the key of a type, by whether it is local
typed : (Has : Key → Type 0) (C : Context) (o : Occurrence) (n : ℕ) (d : Declared) (name q kind : List ℕ) (b : Bool)
    → o.kind ≡ occ.TypeDecl → o.binding ≡ bindings.Class (numbered_id C n) → declared_at C.env (numbered_id C n) ≡ Some d → name ≡ d.type.name
    → qualification_of d ≡ cond b None (Some q) → key_qualification q kind ≡ Some q → IsField name → IsField kind → (b ≡ false → IsField q)
    → Had Has (cond b (key_of categories.TypeDecl (name ∷ [] ∷ (byte "l" ∷ []) ∷ [])) (key_of categories.TypeDecl (name ∷ q ∷ kind ∷ [])) ∷ [])
    → (key : Key) × Has key × IsDeclarationKey C.env o key
typed Has C o n d name q kind true k b at named qual kq field kf fq h = (
  key_of categories.TypeDecl (name ∷ [] ∷ (byte "l" ∷ []) ∷ []),
  h _ (inl refl),
  of_type (numbered_id C n) d [] (byte "l" ∷ []) k b at (sym qual) (subst IsField named field) refl refl
      (ap (λ x. key_of categories.TypeDecl (x ∷ [] ∷ (byte "l" ∷ []) ∷ [])) named),
)
typed Has C o n d name q kind false k b at named qual kq field kf fq h = (
  key_of categories.TypeDecl (name ∷ q ∷ kind ∷ []),
  h _ (inl refl),
  of_type (numbered_id C n) d q kind k b at (kq ∙ sym qual) (subst IsField named field) (fq refl) kf
      (ap (λ x. key_of categories.TypeDecl (x ∷ q ∷ kind ∷ [])) named),
)

type-by : (Has : Key → Type 0) (u : CompilationUnit) (C : Context) → IsContext u C → AllByRecursion IsShaped u.types → (n : ℕ) (t : TypeDecl)
    → slice_get u.types n ≡ Some t
    → (i : Ident) (kind : List ℕ) → i.name ≡ simple_name t.head → ((q : List ℕ) → key_qualification q kind ≡ Some q) → IsField kind
    → Had Has (type_key u n i.name kind) → HasDeclarationKey Has C.env (mention occ.TypeDecl i (bindings.Class (numbered_id C n)))
type-by Has u C c s n t at i kind named kq kf h =
    let p = has-place c.env c.path u C c.of_env c.outlined n t at in
    let d = one_of p.doc C.outline C.first n p.outline in
    let k = known u C c s n d refl refl in
    let q = with_dots (qualification u n) in
    let qual : qualification_of d ≡ cond (is_local_type u.types n) None (Some q) =
    ap (λ b. cond b None (Some (with_dots (C.outline.«package» ++ enclosing_names d)))) k.local
    ∙ ap (λ ns. cond (is_local_type u.types n) None (Some (with_dots ns))) k.names in
    record {
      there = (d, p.at);
      bound = λ x e. cc;
      keyed = λ field few fields.
          typed Has C (mention occ.TypeDecl i (bindings.Class (numbered_id C n))) n d i.name q kind (is_local_type u.types n) refl refl p.at
          (named ∙ sym (ap (λ x. x.name) p.of_type.is ∙ head-name p.of_type.hole t.head)) qual (kq q) field kf
          (λ f. fields (numbered_id C n) d q p.at (qual ∙ ap (λ b. cond b None (Some q)) f)) h;
    }

pub type-declared : (Has : Key → Type 0) (u : CompilationUnit) (C : Context) → IsContext u C → AllByRecursion IsShaped u.types → (n : ℕ) (t : TypeDecl)
    → slice_get u.types n ≡ Some t → Had Has (head_keys u n t.head) → AllDeclared Has C.env (type_declaration (numbered_id C n) t.head)
type-declared Has u C c s n t at h = by t.head refl h
  where
    by : (head : TypeHead) → t.head ≡ head → Had Has (head_keys u n head) → AllDeclared Has C.env (type_declaration (numbered_id C n) head)
    by (heads.Class x) e h =
        let own = type_key u n x.name.name (byte "c" ∷ []) in
        let extended = map (super_key u x.name.name (byte "e" ∷ [])) (option_to_list x.extends) in
        let implemented = map (super_key u x.name.name (byte "i" ∷ [])) x.implements in (
          type-by Has u C c s n t at x.name (byte "c" ∷ []) (sym (ap simple_name e)) (λ q. refl) refl
              (left-had Has own extended (left-had Has (own ++ extended) implemented h)),
          tt,
        )
    by (heads.Interface x) e h = (
      type-by Has u C c s n t at x.name (byte "i" ∷ []) (sym (ap simple_name e)) (λ q. refl) refl
          (left-had Has (type_key u n x.name.name (byte "i" ∷ [])) (map (super_key u x.name.name (byte "x" ∷ [])) x.extends) h),
      tt,
    )
    by heads.Anonymous e h = tt
