-- What a type inherits rests on the answers to finitely many questions.
use Rattle.std.proofs.Common.{◌≡◌, Bool, cond, List, [], ◌∷◌, ◌++◌, map, flat_map, filter, find, Option, Some, None, option_map, option_to_list, inl, refl, sym, ap, ◌∙◌}
use Rattle.std.specs.Option.{option_map_or}
use Rattle.java_tree.specs.declared.occurrence.TypeId.{TypeId}
use Rattle.java_tree.specs.declared.outline.ImportName.{ImportName}
use Rattle.java_tree.specs.declared.outline.Outline.{Outline}
use Rattle.java_tree.specs.declared.outline.TypeKind.{TypeKind}
use Rattle.java_tree.specs.declared.outline.TypeKind.TheVariants as kinds
use Rattle.java_tree.specs.declared.types.JType.{JType}
use Rattle.java_model.specs.Names.Lists.{Identifier, Identifiers, with_dots, or_else, otherwise, the_one, fresh}
use Rattle.java_model.specs.Names.Environments.{Env, Declared, declared_at, is_java_lang, object_name, same_id, type_named, java_lang}
use Rattle.java_model.specs.Names.TypeNames.{Ask, TypeBound, LocalClass, Body, TypeScope, types_at, types_within, meaning, or_absent, class_of, next_types, types_after, import_types, import_type, imports_name, imported, in_imported_type, on_demand_by, on_demand, of_package, simple_type, resolve_by, header_scope}
use Rattle.java_model.specs.Names.Supertypes.{inherits_type, inherited_types, anonymous_supers, or_object, supers_by, supers_of, supers_asking}
use Rattle.java_laws.specs.Reuse.{Question, AgreeOn, inherited_asking}
use Rattle.java_laws.proofs.Lists.{among, contained, among-left, among-right}

pub record RestsOn {A : Type 0} (f : Ask → A) (ask : Ask) : Type 0 where
  pub questions : List Question
  pub rests : (other : Ask) → AgreeOn questions ask other → f other ≡ f ask

-- fewer questions are agreed on too
left-agree : (ps qs : List Question) (ask other : Ask) → AgreeOn (ps ++ qs) ask other → AgreeOn ps ask other
left-agree ps qs ask other h t name c = h t name (contained (ps ++ qs) (t, name) (among-left ps qs (t, name) (among ps (t, name) c)))

right-agree : (ps qs : List Question) (ask other : Ask) → AgreeOn (ps ++ qs) ask other → AgreeOn qs ask other
right-agree ps qs ask other h t name c = h t name (contained (ps ++ qs) (t, name) (among-right ps qs (t, name) (among qs (t, name) c)))

pure : {A : Type 0} (x : A) (ask : Ask) → RestsOn (λ a. x) ask
pure x ask = record { questions = []; rests = λ other h. refl }

asked : (t : TypeId) (name : Identifier) (ask : Ask) → RestsOn (λ a. a t name) ask
asked t name ask = record { questions = (t, name) ∷ []; rests = λ other h. sym (h t name (contained ((t, name) ∷ []) (t, name) (inl refl))) }

mapped : {A B : Type 0} (h : A → B) (f : Ask → A) (ask : Ask) → RestsOn f ask → RestsOn (λ a. h (f a)) ask
mapped h f ask r = record { questions = r.questions; rests = λ other e. ap h (r.rests other e) }

-- one that rests on what another gives
next : {A B : Type 0} (f : Ask → A) (g : A → Ask → B) (ask : Ask) → RestsOn f ask → ((x : A) → RestsOn (g x) ask) → RestsOn (λ a. g (f a) a) ask
next f g ask r s = let t = s (f ask) in record {
  questions = r.questions ++ t.questions;
  rests = λ other e.
      ap (λ x. g x other) (r.rests other (left-agree r.questions t.questions ask other e)) ∙ t.rests other (right-agree r.questions t.questions ask other e);
}

both : {A B D : Type 0} (h : A → B → D) (f : Ask → A) (g : Ask → B) (ask : Ask) → RestsOn f ask → RestsOn g ask → RestsOn (λ a. h (f a) (g a)) ask
both h f g ask r s = next f (λ x a. h x (g a)) ask r (λ x. mapped (h x) g ask s)

each : {X B : Type 0} (f : X → Ask → List B) (ask : Ask) → ((x : X) → RestsOn (f x) ask) → (xs : List X) → RestsOn (λ a. flat_map (λ x. f x a) xs) ask
each f ask r [] = pure [] ask
each f ask r (x ∷ xs) = both (λ u v. u ++ v) (f x) (λ a. flat_map (λ y. f y a) xs) ask (r x) (each f ask r xs)

all : {X B : Type 0} (f : X → Ask → B) (ask : Ask) → ((x : X) → RestsOn (f x) ask) → (xs : List X) → RestsOn (λ a. map (λ x. f x a) xs) ask
all f ask r [] = pure [] ask
all f ask r (x ∷ xs) = both (λ u v. u ∷ v) (f x) (λ a. map (λ y. f y a) xs) ask (r x) (all f ask r xs)

-- TYPE NAMES
of-bound : (env : Env) (name : Identifier) (b : TypeBound) (ask : Ask) → RestsOn (λ a. types_at env a name b) ask
of-bound env name (LocalClass t) ask = pure _ ask
of-bound env name (Body t) ask = asked t name ask

of-bounds : (env : Env) (name : Identifier) (bs : List TypeBound) (ask : Ask) → RestsOn (λ a. types_within env a name bs) ask
of-bounds env name [] ask = pure [] ask
of-bounds env name (b ∷ bs) ask =
    both (λ u v. or_else u (λ _. v)) (λ a. types_at env a name b) (λ a. types_within env a name bs) ask (of-bound env name b ask) (of-bounds env name bs ask)

of-next : (env : Env) (left : List TypeId) (spelled : Identifiers) (name : Identifier) (ask : Ask) → RestsOn (λ a. next_types env a left spelled name) ask
of-next env left spelled name ask =
    mapped (λ u. or_else u (λ _. option_to_list (type_named env (with_dots spelled) (name ∷ []))))
    (λ a. flat_map (λ t. a t name) (option_to_list (the_one left))) ask
    (each (λ t a. a t name) ask (λ t. asked t name ask) (option_to_list (the_one left)))

of-rest : (env : Env) (names : Identifiers) (left : List TypeId) (spelled : Identifiers) (ask : Ask) → RestsOn (λ a. types_after env a left spelled names) ask
of-rest env [] left spelled ask = pure left ask
of-rest env (x ∷ xs) left spelled ask =
    next (λ a. next_types env a left spelled x) (λ found a. types_after env a found (spelled ++ x ∷ []) xs) ask (of-next env left spelled x ask)
    (λ found. of-rest env xs found (spelled ++ x ∷ []) ask)

of-import : (env : Env) (name : Identifiers) (ask : Ask) → RestsOn (λ a. import_type env a name) ask
of-import env name ask = mapped (λ ts. or_absent name (meaning name ts)) (λ a. import_types env a name) ask (of-rest env name [] [] ask)

of-found : (env : Env) (i : Option ImportName) (ask : Ask) → RestsOn (λ a. option_map (λ x. import_type env a x.name) i) ask
of-found env None ask = pure None ask
of-found env (Some i) ask = mapped Some (λ a. import_type env a i.name) ask (of-import env i.name ask)

in-imported : (env : Env) (spelled : Identifiers) (name : Identifier) (ts : List TypeId) (ask : Ask) → RestsOn (λ a. in_imported_type env a spelled name ts) ask
in-imported env spelled name [] ask = pure _ ask
in-imported env spelled name (t ∷ []) ask = asked t name ask
in-imported env spelled name (t ∷ u ∷ ts) ask = pure _ ask

where-star : (b : Bool) (f : Ask → List TypeId) (ask : Ask) → RestsOn f ask → RestsOn (λ a. cond b (f a) []) ask
where-star b f ask r = mapped (λ ts. cond b ts []) f ask r

by-import : (env : Env) (name : Identifier) (i : ImportName) (ask : Ask) → RestsOn (λ a. on_demand_by env a name i) ask
by-import env name i ask =
    where-star i.star (λ a. in_imported_type env a i.name name (import_types env a i.name)) ask
    (next (λ a. import_types env a i.name) (λ ts a. in_imported_type env a i.name name ts) ask (of-rest env i.name [] [] ask)
    (λ ts. in-imported env i.name name ts ask))

of-demand : (env : Env) (o : Outline) (name : Identifier) (ask : Ask) → RestsOn (λ a. on_demand env a o name) ask
of-demand env o name ask =
    mapped (λ ts. fresh same_id [] (ts ++ option_to_list (type_named env (with_dots java_lang) (name ∷ []))))
    (λ a. flat_map (on_demand_by env a name) o.imports) ask
    (each (λ i a. on_demand_by env a name i) ask (λ i. by-import env name i ask) o.imports)

or-next : (f g : Ask → Option JType) (ask : Ask) → RestsOn f ask → RestsOn g ask → RestsOn (λ a. otherwise (f a) (λ _. g a)) ask
or-next f g ask r s = both (λ u v. otherwise u (λ _. v)) f g ask r s

of-simple : (env : Env) (s : TypeScope) (name : Identifier) (ask : Ask) → RestsOn (λ a. simple_type env a s name) ask
of-simple env s name ask =
    let spelled = name ∷ [] in
    let own = λ (a : Ask). meaning spelled (types_within env a name s.bounds) in
    let by_name = λ (a : Ask). imported env a s.outline name in
    let in_package = λ (a : Ask). meaning spelled (of_package env s.outline name) in
    let demanded = λ (a : Ask). meaning spelled (on_demand env a s.outline name) in
    mapped (or_absent spelled) (λ a. otherwise (own a) (λ _. otherwise (by_name a) (λ _. otherwise (in_package a) (λ _. demanded a)))) ask
    (or-next own (λ a. otherwise (by_name a) (λ _. otherwise (in_package a) (λ _. demanded a))) ask
    (mapped (meaning spelled) (λ a. types_within env a name s.bounds) ask (of-bounds env name s.bounds ask))
    (or-next by_name (λ a. otherwise (in_package a) (λ _. demanded a)) ask (of-found env (find (imports_name name) s.outline.imports) ask)
    (or-next in_package demanded ask (pure (meaning spelled (of_package env s.outline name)) ask)
    (mapped (meaning spelled) (λ a. on_demand env a s.outline name) ask (of-demand env s.outline name ask)))))

of-name : (env : Env) (s : TypeScope) (names : Identifiers) (ask : Ask) → RestsOn (λ a. resolve_by env a s names) ask
of-name env s [] ask = pure _ ask
of-name env s (x ∷ []) ask = of-simple env s x ask
of-name env s (x ∷ y ∷ ys) ask =
    next (λ a. simple_type env a s x)
    (λ t a. or_absent (x ∷ y ∷ ys) (meaning (x ∷ y ∷ ys) (types_after env a (class_of t) (x ∷ []) (y ∷ ys)))) ask (of-simple env s x ask)
    (λ t. mapped (λ ts. or_absent (x ∷ y ∷ ys) (meaning (x ∷ y ∷ ys) ts)) (λ a. types_after env a (class_of t) (x ∷ []) (y ∷ ys)) ask
    (of-rest env (y ∷ ys) (class_of t) (x ∷ []) ask))

-- SUPERTYPES
of-names : (env : Env) (s : TypeScope) (ns : List Identifiers) (ask : Ask) → RestsOn (λ a. map (resolve_by env a s) ns) ask
of-names env s ns ask = all (λ n a. resolve_by env a s n) ask (λ n. of-name env s n ask) ns

of-kind : (env : Env) (s : TypeScope) (kind : TypeKind) (extends implements : List Identifiers) (ask : Ask)
    → RestsOn (λ a. supers_by env (resolve_by env a s) kind extends implements) ask
of-kind env s kinds.Class extends implements ask =
    both (λ u v. or_object env u ++ v) (λ a. map (resolve_by env a s) extends) (λ a. map (resolve_by env a s) implements) ask
    (of-names env s extends ask) (of-names env s implements ask)
of-kind env s kinds.Interface extends implements ask = of-names env s extends ask
of-kind env s kinds.Anonymous extends implements ask =
    each (λ n a. anonymous_supers env (resolve_by env a s n)) ask
    (λ n. mapped (anonymous_supers env) (λ a. resolve_by env a s n) ask (of-name env s n ask)) extends

of-declared : (env : Env) (o : Option Declared) (ask : Ask) → RestsOn (λ a. option_map_or (supers_of env a) o []) ask
of-declared env None ask = pure [] ask
of-declared env (Some d) ask =
    mapped (λ ts. cond (is_java_lang object_name d) [] ts)
    (λ a. supers_by env (resolve_by env a (header_scope d)) d.type.kind d.type.extends d.type.implements) ask
    (of-kind env (header_scope d) d.type.kind d.type.extends d.type.implements ask)

pub inheritance-rests : (env : Env) (t : TypeId) (name : Identifier) (ask : Ask) → RestsOn (λ a. inherited_asking env a t name) ask
inheritance-rests env t name ask =
    next (λ a. flat_map class_of (supers_asking env a t)) (λ supers a. inherited_types env a t name supers) ask
    (mapped (flat_map class_of) (λ a. supers_asking env a t) ask (of-declared env (declared_at env t) ask))
    (λ supers. mapped (λ ts. fresh same_id [] (filter (inherits_type env t) ts)) (λ a. flat_map (λ s. a s name) supers) ask
    (each (λ s a. a s name) ask (λ s. asked s name ask) supers))
