-- What the occurrence of a declared name is bound to has that name, and stands there.
use Rattle.std.proofs.Common.{◌≡◌, ℕ, zero, suc, ◌+◌, ◌==◌, ◌&&◌, Bool, true, false, List, [], ◌∷◌, ◌++◌, Option, Some, None, length, slice_get, get_or, position, refl, ap, sym, subst, ◌∙◌, zero-add, suc-add}
use Rattle.std.specs.Option.{option_and_then, option_map}
use Rattle.std.specs.Str.{bytes_eq}
use Rattle.std.proofs.lemmas.Bool.Decides.{Decides-eqb}
use Rattle.std.proofs.lemmas.List.Quantifiers.{position-Some}
use Rattle.std.proofs.lemmas.Option.{none-some, slice_get-get_or}
use Rattle.std.proofs.lemmas.Slice.Eq.{bytes_eq-Decides}
use Rattle.java_tree.specs.declared.names.Ident.{Ident}
use Rattle.java_tree.specs.declared.occurrence.Binding.{Binding}
use Rattle.java_tree.specs.declared.occurrence.Binding.TheVariants as bindings
use Rattle.java_tree.specs.declared.occurrence.FieldId.{FieldId}
use Rattle.java_tree.specs.declared.occurrence.MethodId.{MethodId}
use Rattle.java_tree.specs.declared.occurrence.TypeId.{TypeId}
use Rattle.java_tree.specs.declared.outline.OutlineMethod.{OutlineMethod}
use Rattle.java_tree.specs.declared.token.Span.{Span}
use Rattle.java_model.specs.Names.Lists.{Identifier}
use Rattle.java_model.specs.Names.Environments.{Env, Declared, declared_at}
use Rattle.java_model.specs.Names.Fields.{field_at}
use Rattle.java_model.specs.Names.Methods.{method_at, bodies_of, default_constructors}
use Rattle.java_model.specs.Scopes.Contexts.{Context, numbered_id}
use Rattle.java_model.specs.Occurrences.Laws.{FieldDeclared, MethodDeclared}
use Rattle.java_model.specs.Occurrences.Declarations.{is_declared_at, is_method_at, field_of, method_of, field_place, method_place, constructor_place, field_declaration, method_declaration, constructor_declaration}

pub both : (a b : Bool) → (a && b) ≡ true → (a ≡ true) × (b ≡ true)
both true true e = (refl, refl)
both true false e = absurd cc
both false b e = absurd cc

-- an element at a position passes the test
pub found-at : {X : Type 0} (p : X → Bool) (xs : List X) (n : ℕ) → position p xs ≡ Some n → (x : X) × (slice_get xs n ≡ Some x) × (p x ≡ true)
found-at p [] n e = absurd (none-some n e)
found-at p (x ∷ xs) n e =
    let h = position-Some p (x ∷ xs) n x e in (get_or (x ∷ xs) n x, slice_get-get_or (x ∷ xs) n x h.0, h.1)

same-span : (s t : Span) → s.start ≡ t.start → s.end ≡ t.end → s ≡ t
same-span s t a b = ap (λ n. record { start = n; end = s.end }) a ∙ ap (λ n. record { start = t.start; end = n }) b

-- where a name stands
declared-name : (i : Ident) (name : Identifier) (span : Span) → is_declared_at i name span ≡ true → (name ≡ i.name) × (span ≡ i.span)
declared-name i name span e =
    let h = both (bytes_eq i.name name && (i.span.start == span.start)) (i.span.end == span.end) e in
    let k = both (bytes_eq i.name name) (i.span.start == span.start) h.0 in (
      sym ((bytes_eq-Decides i.name name).0 k.0),
      sym (same-span i.span span ((Decides-eqb i.span.start span.start).0 k.1) ((Decides-eqb i.span.end span.end).0 h.1)),
    )

fields-of : Binding → List FieldId
fields-of (bindings.Field f) = f ∷ []
fields-of _ = []

head-or : {X : Type 0} → X → List X → X
head-or x [] = x
head-or x (y ∷ ys) = y

field-here : (env : Env) (t : TypeId) (i : Ident) (d : Declared) (f : FieldId) (r : Option ℕ) → declared_at env t ≡ Some d → field_place i d.type ≡ r
    → field_of t r ≡ bindings.Field f → FieldDeclared env i f
unfolding fields-of head-or
field-here env t i d f None at e b = absurd cc
field-here env t i d f (Some n) at e b =
    let g = found-at (λ o. is_declared_at i o.name o.span) d.type.fields n e in
    let k = declared-name i g.0.name g.0.span g.2 in
    record {
      field = g.0;
      at = subst (λ x. field_at env x ≡ Some g.0) (ap (λ b. head-or f (fields-of b)) b)
          (ap (option_and_then (λ d. slice_get d.type.fields n)) at ∙ g.1);
      name = k.0;
      span = k.1;
    }

field-in : (env : Env) (t : TypeId) (i : Ident) (f : FieldId) (o : Option Declared) → declared_at env t ≡ o
    → field_of t (option_and_then (field_place i) (option_map (λ d. d.type) o)) ≡ bindings.Field f → FieldDeclared env i f
unfolding fields-of
field-in env t i f None at b = absurd cc
field-in env t i f (Some d) at b = field-here env t i d f (field_place i d.type) at refl b

pub field-declared : (C : Context) (number : ℕ) (i : Ident) (f : FieldId) → (field_declaration C number i).binding ≡ bindings.Field f → FieldDeclared C.env i f
field-declared C number i f = field-in C.env (numbered_id C number) i f (declared_at C.env (numbered_id C number)) refl

methods-of : Binding → List MethodId
methods-of (bindings.Method m) = m ∷ []
methods-of _ = []

pub in-front : {X : Type 0} (xs ys : List X) (n : ℕ) (x : X) → slice_get xs n ≡ Some x → slice_get (xs ++ ys) n ≡ Some x
in-front [] ys n x e = absurd (none-some x e)
in-front (y ∷ xs) ys zero x e = e
in-front (y ∷ xs) ys (suc n) x e = in-front xs ys n x e

pub behind : {X : Type 0} (xs ys : List X) (n : ℕ) → slice_get (xs ++ ys) (length xs + n) ≡ slice_get ys n
behind [] ys n = ap (slice_get ys) (zero-add n)
behind (x ∷ xs) ys n = ap (slice_get (x ∷ (xs ++ ys))) (suc-add (length xs) n) ∙ behind xs ys n

method-told : (i : Ident) (parameters : ℕ) (o : OutlineMethod) → is_method_at i parameters o ≡ true
    → (o.name ≡ i.name) × (o.span ≡ i.span) × (length o.params ≡ parameters)
method-told i parameters o e =
    let h = both (is_declared_at i o.name o.span) (parameters == length o.params) e in
    let k = declared-name i o.name o.span h.0 in
    (k.0, k.1, sym ((Decides-eqb parameters (length o.params)).0 h.1))

-- among the methods and constructors of a declared type, at a place to which the look-up leads
method-here : (env : Env) (t : TypeId) (i : Ident) (parameters : ℕ) (d : Declared) (m : MethodId) (n : ℕ) (o : OutlineMethod) → declared_at env t ≡ Some d
    → slice_get (bodies_of env d) n ≡ Some o → is_method_at i parameters o ≡ true → method_of t (Some n) ≡ bindings.Method m → MethodDeclared env i parameters m
unfolding methods-of head-or
method-here env t i parameters d m n o at is here b =
    let k = method-told i parameters o here in
    record {
      method = o;
      at = subst (λ x. method_at env x ≡ Some o) (ap (λ b. head-or m (methods-of b)) b) (ap (option_and_then (λ d. slice_get (bodies_of env d) n)) at ∙ is);
      name = k.0;
      span = k.1;
      as_many = k.2;
    }

method-at : (env : Env) (t : TypeId) (i : Ident) (parameters : ℕ) (d : Declared) (m : MethodId) (r : Option ℕ) → declared_at env t ≡ Some d
    → method_place i parameters d.type ≡ r → method_of t r ≡ bindings.Method m → MethodDeclared env i parameters m
method-at env t i parameters d m None at e b = absurd cc
method-at env t i parameters d m (Some n) at e b =
    let g = found-at (is_method_at i parameters) d.type.methods n e in
    method-here env t i parameters d m n g.0 at
    (in-front (d.type.methods ++ d.type.constructors) (default_constructors env d d.type.constructors) n g.0 (in-front d.type.methods d.type.constructors n g.0 g.1))
    g.2 b

method-in : (env : Env) (t : TypeId) (i : Ident) (parameters : ℕ) (m : MethodId) (o : Option Declared) → declared_at env t ≡ o
    → method_of t (option_and_then (method_place i parameters) (option_map (λ d. d.type) o)) ≡ bindings.Method m → MethodDeclared env i parameters m
method-in env t i parameters m None at b = absurd cc
method-in env t i parameters m (Some d) at b = method-at env t i parameters d m (method_place i parameters d.type) at refl b

pub method-declared : (C : Context) (number : ℕ) (i : Ident) (parameters : ℕ) (m : MethodId)
    → (method_declaration C number i parameters).binding ≡ bindings.Method m → MethodDeclared C.env i parameters m
method-declared C number i parameters m = method-in C.env (numbered_id C number) i parameters m (declared_at C.env (numbered_id C number)) refl

constructor-at : (env : Env) (t : TypeId) (i : Ident) (parameters : ℕ) (d : Declared) (m : MethodId) (r : Option ℕ) → declared_at env t ≡ Some d
    → position (is_method_at i parameters) d.type.constructors ≡ r → method_of t (option_map (λ n. length d.type.methods + n) r) ≡ bindings.Method m
    → MethodDeclared env i parameters m
constructor-at env t i parameters d m None at e b = absurd cc
constructor-at env t i parameters d m (Some n) at e b =
    let g = found-at (is_method_at i parameters) d.type.constructors n e in
    method-here env t i parameters d m (length d.type.methods + n) g.0 at
    (in-front (d.type.methods ++ d.type.constructors) (default_constructors env d d.type.constructors) (length d.type.methods + n) g.0
    (behind d.type.methods d.type.constructors n ∙ g.1))
    g.2 b

constructor-in : (env : Env) (t : TypeId) (i : Ident) (parameters : ℕ) (m : MethodId) (o : Option Declared) → declared_at env t ≡ o
    → method_of t (option_and_then (constructor_place i parameters) (option_map (λ d. d.type) o)) ≡ bindings.Method m → MethodDeclared env i parameters m
constructor-in env t i parameters m None at b = absurd cc
constructor-in env t i parameters m (Some d) at b = constructor-at env t i parameters d m (position (is_method_at i parameters) d.type.constructors) at refl b

pub constructor-declared : (C : Context) (number : ℕ) (i : Ident) (parameters : ℕ) (m : MethodId)
    → (constructor_declaration C number i parameters).binding ≡ bindings.Method m → MethodDeclared C.env i parameters m
constructor-declared C number i parameters m = constructor-in C.env (numbered_id C number) i parameters m (declared_at C.env (numbered_id C number)) refl
