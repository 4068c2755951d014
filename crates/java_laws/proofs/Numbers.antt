-- A type of a unit stands in the environment of its context under its number, and each type under its own.
use Rattle.std.proofs.Common.{◌≡◌, ℕ, zero, suc, ◌+◌, Bool, true, false, cond, List, [], ◌∷◌, ◌++◌, Option, Some, length, slice_get, ◌⊎◌, inl, inr, refl, ap, sym, subst, ◌∙◌, arith, zero-add}
use Rattle.std.specs.List.{list_any}
use Rattle.std.proofs.lemmas.Option.{none-some, same_Some}
use Rattle.java_tree.specs.declared.occurrence.TypeId.{TypeId}
use Rattle.java_tree.specs.declared.outline.Outline.{Outline}
use Rattle.java_tree.specs.declared.outline.OutlineType.{OutlineType}
use Rattle.java_tree.specs.declared.types.DocPath.{DocPath}
use Rattle.java_tree.specs.declared.unit.TypeDecl.{TypeDecl}
use Rattle.java_tree.specs.declared.unit.Unit.{Unit as CompilationUnit}
use Rattle.java_model.specs.Outlines.{IsOutline, IsOutlineType, AreOutlineTypes}
use Rattle.java_model.specs.Names.Lists.{Identifier}
use Rattle.java_model.specs.Names.Environments.{Env, EnvDocument, Declared, declared_in, declared_by, declared, declared_at, with_java_lang, undeclared, is_java_lang, object_name, string_name, same_path, type_id, id_of}
use Rattle.java_model.specs.Scopes.Contexts.{Context, context_among, context_of, numbered_id}
use Rattle.java_model.proofs.DeclaredLaws.{in-front, behind}

-- a type of a document
abbrev pub one_of : Option DocPath → Outline → ℕ → ℕ → OutlineType → Declared
one_of doc out first n o = record { doc = doc; outline = out; first = first; number = n; type = o }

get-declared : (doc : Option DocPath) (out : Outline) (first m n : ℕ) (ts : List OutlineType) (o : OutlineType) → slice_get ts n ≡ Some o
    → slice_get (declared_in doc out first m ts) n ≡ Some (one_of doc out first (m + n) o)
get-declared doc out first m n [] o e = absurd (none-some o e)
get-declared doc out first m zero (t ∷ ts) o e =
    ap (λ x. Some (one_of doc out first m x)) (same_Some t o e) ∙ ap (λ k. Some (one_of doc out first k o)) (let z : m ≡ m + 0 = omega arith in z)
get-declared doc out first m (suc n) (t ∷ ts) o e =
    get-declared doc out first (m + 1) n ts o e ∙ ap (λ k. Some (one_of doc out first k o)) (let z : (m + 1) + n ≡ m + suc n = omega arith in z)

length-in : (doc : Option DocPath) (out : Outline) (first m : ℕ) (ts : List OutlineType) → length (declared_in doc out first m ts) ≡ length ts
length-in doc out first m [] = refl
length-in doc out first m (t ∷ ts) = ap suc (length-in doc out first (m + 1) ts)

-- where the types of a context stand among those of documents
record In (first : ℕ) (ds : List EnvDocument) (C : Context) (n : ℕ) (o : OutlineType) : Type 0 where
  place : ℕ
  doc : Option DocPath
  at : slice_get (declared_by first ds) place ≡ Some (one_of doc C.outline C.first n o)
  number : first + place ≡ C.first + n

moved : (a b c j k : ℕ) → c ≡ b → a + b + j ≡ k → a + (c + j) ≡ k
moved a b c j k e f = omega (arith, e, f)

in-first : (env : Env) (u : CompilationUnit) (first : ℕ) (d : EnvDocument) (ds : List EnvDocument) (C : Context) (n : ℕ) (o : OutlineType) (b : Bool)
    (more : Option Context)
    → (more ≡ Some C → In (first + length d.outline.types) ds C n o) → slice_get C.outline.types n ≡ Some o
    → cond b (Some (record { env = env; outline = d.outline; first = first; types = u.types })) more ≡ Some C → In first (d ∷ ds) C n o
in-first env u first d ds C n o true more rest h f =
    let c = same_Some _ C f in
    let own = declared_in (Some d.path) d.outline first 0 d.outline.types in
    let got = get-declared (Some d.path) d.outline first 0 n d.outline.types o (ap (λ x. slice_get x.outline.types n) c ∙ h) in
    record {
      place = n;
      doc = Some d.path;
      at = in-front own (declared_by (first + length d.outline.types) ds) n (one_of (Some d.path) d.outline first (0 + n) o) got
          ∙ ap (λ x. Some (one_of (Some d.path) x.outline x.first (0 + n) o)) c ∙ ap (λ k. Some (one_of (Some d.path) C.outline C.first k o)) (zero-add n);
      number = ap (λ x. x.first + n) c;
    }
in-first env u first d ds C n o false more rest h f =
    let r = rest f in
    let own = declared_in (Some d.path) d.outline first 0 d.outline.types in
    record {
      place = length own + r.place;
      doc = r.doc;
      at = behind own (declared_by (first + length d.outline.types) ds) r.place ∙ r.at;
      number = moved first (length d.outline.types) (length own) r.place (C.first + n) (length-in (Some d.path) d.outline first 0 d.outline.types) r.number;
    }

in-among : (env : Env) (path : DocPath) (u : CompilationUnit) (first : ℕ) (ds : List EnvDocument) (C : Context) (n : ℕ) (o : OutlineType)
    → context_among env path u first ds ≡ Some C → slice_get C.outline.types n ≡ Some o → In first ds C n o
in-among env path u first [] C n o e h = absurd (none-some C e)
in-among env path u first (d ∷ ds) C n o e h =
    in-first env u first d ds C n o (same_path d.path path) (context_among env path u (first + length d.outline.types) ds)
    (λ f. in-among env path u (first + length d.outline.types) ds C n o f h) h e

with-more : (name : Identifier) (ds : List Declared) (b : Bool) (n : ℕ) (d : Declared) → slice_get ds n ≡ Some d
    → slice_get (cond b ds (ds ++ undeclared (length ds) name ∷ [])) n ≡ Some d
with-more name ds true n d e = e
with-more name ds false n d e = in-front ds (undeclared (length ds) name ∷ []) n d e

in-all : (env : Env) (n : ℕ) (d : Declared) → slice_get (declared_by 0 env) n ≡ Some d → slice_get (declared env) n ≡ Some d
in-all env n d e =
    let own = declared_by 0 env in
    let ds = with_java_lang object_name own in
    with-more string_name ds (list_any (is_java_lang string_name) ds) n d (with-more object_name own (list_any (is_java_lang object_name) own) n d e)

-- a context has the environment and the types that it is made of
record IsMade (env : Env) (u : CompilationUnit) (C : Context) : Type 0 where
  env_is : env ≡ C.env
  types : C.types ≡ u.types

made-first : (env : Env) (u : CompilationUnit) (first : ℕ) (o : Outline) (C : Context) (b : Bool) (more : Option Context) → (more ≡ Some C → IsMade env u C)
    → cond b (Some (record { env = env; outline = o; first = first; types = u.types })) more ≡ Some C → IsMade env u C
made-first env u first o C true more rest f =
    let c = same_Some _ C f in record { env_is = ap (λ x. x.env) c; types = sym (ap (λ x. x.types) c) }
made-first env u first o C false more rest f = rest f

made-among : (env : Env) (path : DocPath) (u : CompilationUnit) (first : ℕ) (ds : List EnvDocument) (C : Context)
    → context_among env path u first ds ≡ Some C → IsMade env u C
made-among env path u first [] C e = absurd (none-some C e)
made-among env path u first (d ∷ ds) C e =
    made-first env u first d.outline C (same_path d.path path) (context_among env path u (first + length d.outline.types) ds)
    (λ f. made-among env path u (first + length d.outline.types) ds C f) e

pub env-of : (env : Env) (path : DocPath) (u : CompilationUnit) (C : Context) → context_of env path u ≡ Some C → env ≡ C.env
env-of env path u C e = (made-among env path u 0 env C e).env_is

pub types-of : (env : Env) (path : DocPath) (u : CompilationUnit) (C : Context) → context_of env path u ≡ Some C → C.types ≡ u.types
types-of env path u C e = (made-among env path u 0 env C e).types

outline-at : (u : CompilationUnit) (ts : List TypeDecl) (os : List OutlineType) (n : ℕ) (t : TypeDecl) → AreOutlineTypes u ts os → slice_get ts n ≡ Some t
    → (o : OutlineType) × (slice_get os n ≡ Some o) × IsOutlineType u t o
outline-at u [] os n t h e = absurd (none-some t e)
outline-at u (x ∷ ts) [] n t h e = absurd h
outline-at u (x ∷ ts) (o ∷ os) zero t h e = (o, refl, subst (λ y. IsOutlineType u y o) (same_Some x t e) h.0)
outline-at u (x ∷ ts) (o ∷ os) (suc n) t h e = outline-at u ts os n t h.1 e

-- a type of the unit, with its outline, among all types
pub record HasPlace (u : CompilationUnit) (C : Context) (n : ℕ) (t : TypeDecl) : Type 0 where
  pub outline : OutlineType
  pub of_type : IsOutlineType u t outline
  pub doc : Option DocPath
  pub at : declared_at C.env (numbered_id C n) ≡ Some (one_of doc C.outline C.first n outline)

pub has-place : (env : Env) (path : DocPath) (u : CompilationUnit) (C : Context) → context_of env path u ≡ Some C → IsOutline u C.outline
    → (n : ℕ) (t : TypeDecl) → slice_get u.types n ≡ Some t → HasPlace u C n t
has-place env path u C e o n t h =
    let a = outline-at u u.types C.outline.types n t o.types h in
    let i = in-among env path u 0 env C n a.0 e a.1 in
    let d = one_of i.doc C.outline C.first n a.0 in
    record {
      outline = a.0;
      of_type = a.2;
      doc = i.doc;
      at = subst (λ x. slice_get (declared x) (C.first + n) ≡ Some d) (made-among env path u 0 env C e).env_is
          (subst (λ k. slice_get (declared env) k ≡ Some d) (sym (zero-add i.place) ∙ i.number) (in-all env i.place d i.at));
    }

-- EACH TYPE has its own number.
split-at : {X : Type 0} (xs ys : List X) (k : ℕ) (x : X) → slice_get (xs ++ ys) k ≡ Some x
    → (slice_get xs k ≡ Some x) ⊎ ((j : ℕ) × (k ≡ length xs + j) × (slice_get ys j ≡ Some x))
split-at [] ys k x e = inr (k, sym (zero-add k), e)
split-at (y ∷ xs) ys zero x e = inl e
split-at (y ∷ xs) ys (suc k) x e = elim (split-at xs ys k x e) [
  | inl f ↦ inl f
  | inr f ↦ inr (f.0, (let z = f.1 in omega (arith, z)), f.2)
]

abbrev HasNumber : ℕ → Declared → Type 0
HasNumber k d = d.first + d.number ≡ k

number-in : (doc : Option DocPath) (out : Outline) (first m k : ℕ) (ts : List OutlineType) (d : Declared)
    → slice_get (declared_in doc out first m ts) k ≡ Some d
    → HasNumber (first + (m + k)) d
number-in doc out first m k [] d e = absurd (none-some d e)
number-in doc out first m zero (t ∷ ts) d e =
    ap (λ x. x.first + x.number) (sym (same_Some (one_of doc out first m t) d e)) ∙ (let z : first + m ≡ first + (m + 0) = omega arith in z)
number-in doc out first m (suc k) (t ∷ ts) d e =
    number-in doc out first (m + 1) k ts d e ∙ (let z : first + ((m + 1) + k) ≡ first + (m + suc k) = omega arith in z)

number-by : (first k : ℕ) (ds : List EnvDocument) (d : Declared) → slice_get (declared_by first ds) k ≡ Some d → HasNumber (first + k) d
number-by first k [] d e = absurd (none-some d e)
number-by first k (x ∷ ds) d e =
    let own = declared_in (Some x.path) x.outline first 0 x.outline.types in
    elim (split-at own (declared_by (first + length x.outline.types) ds) k d e) [
      | inl f ↦ number-in (Some x.path) x.outline first 0 k x.outline.types d f ∙ (let z : first + (0 + k) ≡ first + k = omega arith in z)
      | inr f ↦
          let r = number-by (first + length x.outline.types) f.0 ds d f.2 in
          let l = length-in (Some x.path) x.outline first 0 x.outline.types in
          let k_is = f.1 in
          r ∙ (let z : (first + length x.outline.types) + f.0 ≡ first + k = omega (arith, l, k_is) in z)
    ]

abbrev AreNumbered : List Declared → Type 0
AreNumbered ds = (k : ℕ) (d : Declared) → slice_get ds k ≡ Some d → HasNumber k d

only-one : (name : Identifier) (id j : ℕ) (d : Declared) → slice_get (undeclared id name ∷ []) j ≡ Some d → HasNumber (id + j) d
only-one name id zero d e = ap (λ x. x.first + x.number) (sym (same_Some (undeclared id name) d e))
only-one name id (suc j) d e = absurd (none-some d e)

number-with : (name : Identifier) (ds : List Declared) (b : Bool) → AreNumbered ds → AreNumbered (cond b ds (ds ++ undeclared (length ds) name ∷ []))
number-with name ds true h k d e = h k d e
number-with name ds false h k d e = elim (split-at ds (undeclared (length ds) name ∷ []) k d e) [
  | inl f ↦ h k d f
  | inr f ↦ only-one name (length ds) f.0 d f.2 ∙ sym f.1
]

numbered : (env : Env) → AreNumbered (declared env)
numbered env =
    let own = declared_by 0 env in
    let ds = with_java_lang object_name own in
    number-with string_name ds (list_any (is_java_lang string_name) ds)
    (number-with object_name own (list_any (is_java_lang object_name) own) (λ k d e. number-by 0 k env d e ∙ zero-add k))

pub own-id : (env : Env) (t : TypeId) (d : Declared) → declared_at env t ≡ Some d → id_of d ≡ t
own-id env t d e = ap type_id (numbered env t.0 d e)
