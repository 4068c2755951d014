-- What a unit declares is bound to its own declaration.
use Rattle.std.proofs.Common.{◌≡◌, ℕ, suc, ◌+◌, ◌<◌, not, arith, ◌==◌, ◌&&◌, Bool, true, false, cond, List, [], ◌∷◌, Some, None, flat_map, length, position, bytes_eq, nat_eq, inl, inr, refl, ap, sym, subst, ◌∙◌, option_map}
use Rattle.std.specs.List.{position_or_len}
use Rattle.std.specs.Option.{option_and_then}
use Rattle.std.proofs.lemmas.Bool.{and_from, eq-eqb, lt-ltb}
use Rattle.java_tree.specs.declared.names.Ident.{Ident}
use Rattle.java_tree.specs.declared.outline.OutlineMethod.{OutlineMethod}
use Rattle.java_tree.specs.declared.outline.OutlineType.{OutlineType}
use Rattle.java_tree.specs.declared.stmt.Parameter.{Parameter}
use Rattle.java_tree.specs.declared.unit.Member.TheVariants as members
use Rattle.java_tree.specs.declared.unit.TypeDecl.{TypeDecl}
use Rattle.java_tree.specs.declared.unit.Unit.{Unit as CompilationUnit}
use Rattle.java_model.specs.Outlines as outlines
use Rattle.java_model.specs.Outlines.{parameter_types, fields_in, methods_in, constructors_in, constructor_of}
use Rattle.java_model.specs.Scopes.Contexts.{Context, numbered_id}
use Rattle.java_model.specs.Occurrences.Declarations.{is_declared_at, is_method_at, outlined, method_of, field_of, field_place, method_place, constructor_place, field_declaration}
use Rattle.java_laws.specs.Declarations.{IsFieldOf, FieldsAreBound, MethodsAreBound, ConstructorsAreBound}
use Rattle.java_laws.proofs.Lists.{Among, among, among-left, among-right, mapped}
use Rattle.java_laws.proofs.Numbers.{HasPlace, has-place}

-- POSITIONS
first-below-by : {X : Type 0} (p : X → Bool) (x : X) (xs : List X) (b : Bool) → p x ≡ b → position_or_len p xs < length xs
    → cond (not b) (1 + position_or_len p xs) 0 < suc (length xs)
first-below-by p x xs true e l = omega arith
first-below-by p x xs false e l = omega (arith, l)

first-below : {X : Type 0} (p : X → Bool) (xs : List X) (x : X) → Among xs x → p x ≡ true → position_or_len p xs < length xs
first-below p [] x a h = absurd a
first-below p (y ∷ ys) x (inl e) h =
    subst (λ b. cond (not b) (1 + position_or_len p ys) 0 < suc (length ys)) (sym (ap p e ∙ h)) (omega arith)
first-below p (y ∷ ys) x (inr a) h = first-below-by p y ys (p y) refl (first-below p ys x a h)

pub found : {X : Type 0} (p : X → Bool) (xs : List X) (x : X) → Among xs x → p x ≡ true → (n : ℕ) × (position p xs ≡ Some n)
found p xs x a h =
    (position_or_len p xs, ap (λ b. cond b (Some (position_or_len p xs)) None) (lt-ltb (position_or_len p xs) (length xs) (first-below p xs x a h)))

flat-mapped : {X Y : Type 0} (f : X → List Y) (xs : List X) (x : X) (y : Y) → Among xs x → Among (f x) y → Among (flat_map f xs) y
flat-mapped f [] x y a b = absurd a
flat-mapped f (z ∷ zs) x y (inl e) b = among-left (f z) (flat_map f zs) y (subst (λ w. Among (f w) y) (sym e) b)
flat-mapped f (z ∷ zs) x y (inr a) b = among-right (f z) (flat_map f zs) y (flat-mapped f zs x y a b)

-- PLACES OF NAMES
same-text : (xs : List ℕ) → bytes_eq xs xs ≡ true
same-text [] = refl
same-text (x ∷ xs) = and_from (nat_eq x x) (bytes_eq xs xs) (eq-eqb x x refl) (same-text xs)

own-place : (i : Ident) → is_declared_at i i.name i.span ≡ true
own-place i = and_from (bytes_eq i.name i.name && (i.span.start == i.span.start)) (i.span.end == i.span.end)
    (and_from (bytes_eq i.name i.name) (i.span.start == i.span.start) (same-text i.name) (eq-eqb i.span.start i.span.start refl))
    (eq-eqb i.span.end i.span.end refl)

as-many : (ps : List Parameter) → length ps ≡ length (parameter_types ps)
as-many [] = refl
as-many (p ∷ ps) = ap suc (as-many ps)

own-method : (i : Ident) (ps : List Parameter) (o : OutlineMethod) → o.name ≡ i.name → o.span ≡ i.span → o.params ≡ parameter_types ps
    → is_method_at i (length ps) o ≡ true
own-method i ps o n s p =
    and_from (is_declared_at i o.name o.span) (length ps == length o.params)
    (ap (λ x. is_declared_at i x o.span) n ∙ ap (is_declared_at i i.name) s ∙ own-place i)
    (eq-eqb (length ps) (length o.params) (as-many ps ∙ ap length (sym p)))

-- THE OUTLINE of a type that the context numbers
outlined-as : (u : CompilationUnit) (C : Context) (n : ℕ) (t : TypeDecl) (h : HasPlace u C n t) → outlined C n ≡ Some h.outline
outlined-as u C n t h = ap (option_map (λ d. d.type)) h.at

field-bound : (C : Context) (number : ℕ) (i : Ident) (o : OutlineType) → outlined C number ≡ Some o → (n : ℕ) → field_place i o ≡ Some n
    → IsFieldOf C number (field_declaration C number i).binding
field-bound C number i o e n f = record {
  field = record { of = numbered_id C number; place = n };
  is = ap (λ x. field_of (numbered_id C number) (option_and_then (field_place i) x)) e ∙ ap (field_of (numbered_id C number)) f;
  of = refl;
}

pub fields-are-bound : FieldsAreBound
fields-are-bound u C c number t f v at m w =
    let h = has-place c.env c.path u C c.of_env c.outlined number t at in
    let o = h.of_type.is in
    let all = flat_map fields_in t.members in
    let a = flat-mapped fields_in t.members (members.Field f) (outlines.field_of f v) (among t.members (members.Field f) m)
    (mapped (outlines.field_of f) f.variables v (among f.variables v w)) in
    let r = found (λ x. is_declared_at v.name x.name x.span) all (outlines.field_of f v) a (own-place v.name) in
    field-bound C number v.name h.outline (outlined-as u C number t h) r.0
    (ap (λ x. position (λ y. is_declared_at v.name y.name y.span) x.fields) o ∙ r.1)

pub methods-are-bound : MethodsAreBound
methods-are-bound u C c number t m at among_members =
    let h = has-place c.env c.path u C c.of_env c.outlined number t at in
    let o = h.of_type.is in
    let all = flat_map methods_in t.members in
    let test = is_method_at m.name (length m.parameters) in
    let a = flat-mapped methods_in t.members (members.Method m) (outlines.method_of m) (among t.members (members.Method m) among_members) (inl refl) in
    let r = found test all (outlines.method_of m) a (own-method m.name m.parameters (outlines.method_of m) refl refl refl) in
    record {
      method = record { of = numbered_id C number; place = r.0 };
      is = ap (λ x. method_of (numbered_id C number) (option_and_then (method_place m.name (length m.parameters)) x)) (outlined-as u C number t h)
          ∙ ap (λ x. method_of (numbered_id C number) (position test x.methods)) o ∙ ap (method_of (numbered_id C number)) r.1;
      of = refl;
    }

pub constructors-are-bound : ConstructorsAreBound
constructors-are-bound u C c number t k at among_members =
    let h = has-place c.env c.path u C c.of_env c.outlined number t at in
    let o = h.of_type.is in
    let all = flat_map constructors_in t.members in
    let test = is_method_at k.name (length k.parameters) in
    let a = flat-mapped constructors_in t.members (members.Constructor k) (constructor_of k) (among t.members (members.Constructor k) among_members)
    (inl refl) in
    let r = found test all (constructor_of k) a (own-method k.name k.parameters (constructor_of k) refl refl refl) in
    let before = length h.outline.methods in
    record {
      method = record { of = numbered_id C number; place = before + r.0 };
      is = ap (λ x. method_of (numbered_id C number) (option_and_then (constructor_place k.name (length k.parameters)) x)) (outlined-as u C number t h)
          ∙ ap (λ x. method_of (numbered_id C number) (option_map (λ n. before + n) (position test x.constructors))) o
          ∙ ap (λ x. method_of (numbered_id C number) (option_map (λ n. before + n) x)) r.1;
      of = refl;
    }
