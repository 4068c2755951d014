-- The types of a unit, in the environment of its document.
use Rattle.std.proofs.Common.{◌≡◌, ℕ, zero, suc, ◌+◌, Bool, true, false, cond, List, [], ◌∷◌, ◌++◌, Option, Some, length, slice_get, refl, ap, sym, subst, ◌∙◌, arith, zero-add}
use Rattle.std.specs.List.{list_any}
use Rattle.std.proofs.lemmas.Option.{none-some, same_Some}
use Rattle.java_tree.specs.declared.outline.Outline.{Outline}
use Rattle.java_tree.specs.declared.outline.OutlineType.{OutlineType}
use Rattle.java_tree.specs.declared.types.DocPath.{DocPath}
use Rattle.java_tree.specs.declared.unit.TypeDecl.{TypeDecl}
use Rattle.java_tree.specs.declared.unit.TypeHead.{TypeHead}
use Rattle.java_tree.specs.declared.unit.TypeHead.TheVariants as heads
use Rattle.java_tree.specs.declared.unit.Unit.{Unit as CompilationUnit}
use Rattle.java_model.specs.Grammar.Pieces.{Hole}
use Rattle.java_model.specs.Outlines.{IsOutline, IsOutlineType, AreOutlineTypes, headed}
use Rattle.java_model.specs.Names.Lists.{Identifier}
use Rattle.java_model.specs.Names.Environments.{Env, EnvDocument, Declared, declared_in, declared_by, declared, with_java_lang, undeclared, is_java_lang, object_name, string_name, same_path}
use Rattle.java_model.specs.Scopes.Contexts.{Context, context_among, context_of}
use Rattle.java_model.specs.Occurrences.Declarations.{simple_name}
use Rattle.java_model.specs.Occurrences.Laws.{TypeDeclared}
use Rattle.java_model.proofs.DeclaredLaws.{in-front, behind}

-- the place of a type of a list of documents
record Found (ds : List Declared) (place : ℕ) (o : OutlineType) : Type 0 where
  found : Declared
  at : slice_get ds place ≡ Some found
  is : found.type ≡ o

get-declared : (doc : Option DocPath) (out : Outline) (first m n : ℕ) (ts : List OutlineType) (o : OutlineType) → slice_get ts n ≡ Some o
    → Found (declared_in doc out first m ts) n o
get-declared doc out first m n [] o e = absurd (none-some o e)
get-declared doc out first m zero (t ∷ ts) o e = record { found = _; at = refl; is = same_Some t o e }
get-declared doc out first m (suc n) (t ∷ ts) o e = let f = get-declared doc out first (m + 1) n ts o e in record { found = f.found; at = f.at; is = f.is }

length-in : (doc : Option DocPath) (out : Outline) (first m : ℕ) (ts : List OutlineType) → length (declared_in doc out first m ts) ≡ length ts
length-in doc out first m [] = refl
length-in doc out first m (t ∷ ts) = ap suc (length-in doc out first (m + 1) ts)

-- a context among documents, of which the first type has some number
record In (first : ℕ) (ds : List EnvDocument) (C : Context) (n : ℕ) (o : OutlineType) : Type 0 where
  place : ℕ
  found : Found (declared_by first ds) place o
  number : first + place ≡ C.first + n

moved : (a b c j k : ℕ) → c ≡ b → a + b + j ≡ k → a + (c + j) ≡ k
moved a b c j k e f = omega (arith, e, f)

in-first : (env : Env) (u : CompilationUnit) (first : ℕ) (d : EnvDocument) (ds : List EnvDocument) (C : Context) (n : ℕ) (o : OutlineType) (b : Bool) (more : Option Context)
    → (more ≡ Some C → In (first + length d.outline.types) ds C n o) → slice_get C.outline.types n ≡ Some o
    → cond b (Some (record { env = env; outline = d.outline; first = first; types = u.types })) more ≡ Some C → In first (d ∷ ds) C n o
in-first env u first d ds C n o true more rest h f =
    let c = same_Some _ C f in
    let g = get-declared (Some d.path) d.outline first 0 n d.outline.types o (ap (λ x. slice_get x.outline.types n) c ∙ h) in
    record {
      place = n;
      found = record {
        found = g.found;
        at = in-front (declared_in (Some d.path) d.outline first 0 d.outline.types) (declared_by (first + length d.outline.types) ds) n g.found g.at;
        is = g.is;
      };
      number = ap (λ x. x.first + n) c;
    }
in-first env u first d ds C n o false more rest h f =
    let r = rest f in
    record {
      place = length (declared_in (Some d.path) d.outline first 0 d.outline.types) + r.place;
      found = record {
        found = r.found.found;
        at = behind (declared_in (Some d.path) d.outline first 0 d.outline.types) (declared_by (first + length d.outline.types) ds) r.place ∙ r.found.at;
        is = r.found.is;
      };
      number = moved first (length d.outline.types) (length (declared_in (Some d.path) d.outline first 0 d.outline.types)) r.place (C.first + n)
          (length-in (Some d.path) d.outline first 0 d.outline.types) r.number;
    }

in-among : (env : Env) (path : DocPath) (u : CompilationUnit) (first : ℕ) (ds : List EnvDocument) (C : Context) (n : ℕ) (o : OutlineType)
    → context_among env path u first ds ≡ Some C → slice_get C.outline.types n ≡ Some o → In first ds C n o
in-among env path u first [] C n o e h = absurd (none-some C e)
in-among env path u first (d ∷ ds) C n o e h =
    in-first env u first d ds C n o (same_path d.path path) (context_among env path u (first + length d.outline.types) ds)
    (λ f. in-among env path u (first + length d.outline.types) ds C n o f h) h e

-- the same among all types
with-more : (name : Identifier) (ds : List Declared) (b : Bool) (n : ℕ) (d : Declared) → slice_get ds n ≡ Some d
    → slice_get (cond b ds (ds ++ undeclared (length ds) name ∷ [])) n ≡ Some d
with-more name ds true n d e = e
with-more name ds false n d e = in-front ds (undeclared (length ds) name ∷ []) n d e

in-all : (env : Env) (n : ℕ) (d : Declared) → slice_get (declared_by 0 env) n ≡ Some d → slice_get (declared env) n ≡ Some d
in-all env n d e =
    let ds = with_java_lang object_name (declared_by 0 env) in
    with-more string_name ds (list_any (is_java_lang string_name) ds) n d
    (with-more object_name (declared_by 0 env) (list_any (is_java_lang object_name) (declared_by 0 env)) n d e)

env-first : (env : Env) (u : CompilationUnit) (first : ℕ) (o : Outline) (C : Context) (b : Bool) (more : Option Context) → (more ≡ Some C → env ≡ C.env)
    → cond b (Some (record { env = env; outline = o; first = first; types = u.types })) more ≡ Some C → env ≡ C.env
env-first env u first o C true more rest f = ap (λ x. x.env) (same_Some _ C f)
env-first env u first o C false more rest f = rest f

env-of : (env : Env) (path : DocPath) (u : CompilationUnit) (first : ℕ) (ds : List EnvDocument) (C : Context) → context_among env path u first ds ≡ Some C → env ≡ C.env
env-of env path u first [] C e = absurd (none-some C e)
env-of env path u first (d ∷ ds) C e =
    env-first env u first d.outline C (same_path d.path path) (context_among env path u (first + length d.outline.types) ds)
    (λ f. env-of env path u (first + length d.outline.types) ds C f) e

-- the outline of a type of the unit
outline-at : (u : CompilationUnit) (ts : List TypeDecl) (os : List OutlineType) (n : ℕ) (t : TypeDecl) → AreOutlineTypes u ts os → slice_get ts n ≡ Some t
    → (o : OutlineType) × (slice_get os n ≡ Some o) × IsOutlineType u t o
outline-at u [] os n t h e = absurd (none-some t e)
outline-at u (x ∷ ts) [] n t h e = absurd h
outline-at u (x ∷ ts) (o ∷ os) zero t h e = (o, refl, subst (λ y. IsOutlineType u y o) (same_Some x t e) h.0)
outline-at u (x ∷ ts) (o ∷ os) (suc n) t h e = outline-at u ts os n t h.1 e

head-name : (h : Hole) (head : TypeHead) → (headed h head).name ≡ simple_name head
head-name h (heads.Class c) = refl
head-name h (heads.Interface i) = refl
head-name h heads.Anonymous = refl

pub type-declared : (env : Env) (path : DocPath) (u : CompilationUnit) (C : Context) (n : ℕ) (t : TypeDecl) → context_of env path u ≡ Some C
    → IsOutline u C.outline → slice_get u.types n ≡ Some t → TypeDeclared C n t
type-declared env path u C n t e o h =
    let a = outline-at u u.types C.outline.types n t o.types h in
    let i = in-among env path u 0 env C n a.0 e a.1 in
    record {
      type = i.found.found;
      at = subst (λ x. slice_get (declared x) (C.first + n) ≡ Some i.found.found) (env-of env path u 0 env C e)
          (subst (λ k. slice_get (declared env) k ≡ Some i.found.found) (sym (zero-add i.place) ∙ i.number) (in-all env i.place i.found.found i.found.at));
      name = ap (λ x. x.name) i.found.is ∙ (ap (λ x. x.name) a.2.is ∙ head-name a.2.hole t.head);
    }
