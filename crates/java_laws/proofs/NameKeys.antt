-- The keys of the occurrences in a name.
use Rattle.std.proofs.Common.{◌≡◌, Bool, true, false, List, [], ◌∷◌, ◌++◌, Some, None, refl, sym, ◌∙◌, subst}
use Rattle.std.specs.List.{AllByRecursion, zip}
use Rattle.std.proofs.lemmas.Option.{none-some, same_Some}
use Rattle.java_tree.specs.declared.key.Key.{Key}
use Rattle.java_tree.specs.declared.names.Ident.{Ident}
use Rattle.java_tree.specs.declared.occurrence.Access.{Access}
use Rattle.java_tree.specs.declared.occurrence.Access.TheVariants.{Read}
use Rattle.java_tree.specs.declared.occurrence.OccKind.TheVariants as occ
use Rattle.java_tree.specs.declared.occurrence.Occurrence.{Occurrence}
use Rattle.java_tree.specs.declared.types.NameKind.{NameKind}
use Rattle.java_tree.specs.declared.types.NameKind.TheVariants as kinds
use Rattle.java_model.specs.Outlines.{spelled_name}
use Rattle.java_model.specs.Occurrences.References.{Role, as_type, as_import, as_qualifier, as_variable, identifier_in, identifiers_in, unbound_last, last_access, package_in, package_run, counts_before, with_last_kind, occurrences_in}
use Rattle.java_model.specs.Matches.Laws.{reference_key}
use Rattle.java_laws.specs.Keys.{ref_key, IsKeyed, IsOfKind}

-- an occurrence with its keys, bound to what is of its kind
pub record Told (Has : Key → Type 0) (o : Occurrence) : Type 0 where
  pub keyed : IsKeyed Has o
  pub of_kind : IsOfKind o.kind o.name o.binding

abbrev pub AllKeyed : (Key → Type 0) → List Occurrence → Type 0
AllKeyed Has = AllByRecursion (Told Has)

pub append-keyed : (Has : Key → Type 0) (os ps : List Occurrence) → AllKeyed Has os → AllKeyed Has ps → AllKeyed Has (os ++ ps)
append-keyed Has [] ps h k = k
append-keyed Has (o ∷ os) ps h k = (h.0, append-keyed Has os ps h.1 k)

-- an occurrence of a kind that is no reference to a package, by its one key
pub one-keyed : (Has : Key → Type 0) (o : Occurrence) (key : Key) → (o.kind ≡ occ.PackageRef → ⊥) → IsOfKind o.kind o.name o.binding
    → reference_key o.kind o.name o.count ≡ Some key → Has key → Told Has o
one-keyed Has o key differs b r h =
    record { keyed = record { referred = λ k e. subst Has (same_Some key k (sym r ∙ e)) h; packaged = λ e. absurd (differs e) }; of_kind = b }

-- one that is no reference
pub none-keyed : (Has : Key → Type 0) (o : Occurrence) → (o.kind ≡ occ.PackageRef → ⊥) → IsOfKind o.kind o.name o.binding
    → reference_key o.kind o.name o.count ≡ None → Told Has o
none-keyed Has o differs b r =
    record { keyed = record { referred = λ k e. absurd (none-some k (sym r ∙ e)); packaged = λ e. absurd (differs e) }; of_kind = b }

-- each identifier of a name has its key
abbrev pub IdentsKeyed : (Key → Type 0) → List Ident → Type 0
IdentsKeyed Has = AllByRecursion (λ i. Has (ref_key i.name))

abbrev PairsKeyed : (Key → Type 0) → List (Ident × NameKind) → Type 0
PairsKeyed Has = AllByRecursion (λ x. Has (ref_key x.0.name))

zip-keyed : (Has : Key → Type 0) (n : List Ident) (ks : List NameKind) → IdentsKeyed Has n → PairsKeyed Has (zip n ks)
zip-keyed Has [] ks h = tt
zip-keyed Has (i ∷ n) [] h = tt
zip-keyed Has (i ∷ n) (k ∷ ks) h = (h.0, zip-keyed Has n ks h.1)

rest-keyed : (Has : Key → Type 0) (done : List Ident) (xs : List (Ident × NameKind)) → PairsKeyed Has xs → PairsKeyed Has (package_run done xs).rest
rest-keyed Has done [] h = tt
rest-keyed Has done ((i, kinds.Package) ∷ xs) h = rest-keyed Has (done ++ i ∷ []) xs h.1
rest-keyed Has done ((i, kinds.Class t) ∷ xs) h = h
rest-keyed Has done ((i, kinds.Field f) ∷ xs) h = h
rest-keyed Has done ((i, kinds.Local t) ∷ xs) h = h
rest-keyed Has done ((i, kinds.Nothing) ∷ xs) h = h

idents-append : (Has : Key → Type 0) (m n : List Ident) → IdentsKeyed Has m → IdentsKeyed Has n → IdentsKeyed Has (m ++ n)
idents-append Has [] n h k = k
idents-append Has (i ∷ m) n h k = (h.0, idents-append Has m n h.1 k)

run-keyed : (Has : Key → Type 0) (done : List Ident) (xs : List (Ident × NameKind)) → IdentsKeyed Has done → PairsKeyed Has xs
    → IdentsKeyed Has (package_run done xs).run
run-keyed Has done [] d h = d
run-keyed Has done ((i, kinds.Package) ∷ xs) d h = run-keyed Has (done ++ i ∷ []) xs (idents-append Has done (i ∷ []) d (h.0, tt)) h.1
run-keyed Has done ((i, kinds.Class t) ∷ xs) d h = d
run-keyed Has done ((i, kinds.Field f) ∷ xs) d h = d
run-keyed Has done ((i, kinds.Local t) ∷ xs) d h = d
run-keyed Has done ((i, kinds.Nothing) ∷ xs) d h = d

pub unbound-keyed : (Has : Key → Type 0) (role : Role) (i : Ident) → Has (ref_key i.name) → Told Has (unbound_last role i)
unbound-keyed Has as_type i h = one-keyed Has (unbound_last as_type i) (ref_key i.name) (λ e. cc) tt refl h
unbound-keyed Has as_import i h = one-keyed Has (unbound_last as_import i) (ref_key i.name) (λ e. cc) tt refl h
unbound-keyed Has as_qualifier i h = one-keyed Has (unbound_last as_qualifier i) (ref_key i.name) (λ e. cc) tt refl h
unbound-keyed Has (as_variable how) i h = one-keyed Has (unbound_last (as_variable how) i) (ref_key i.name) (λ e. cc) tt refl h

pub identifier-keyed : (Has : Key → Type 0) (how : Access) (unbound : Occurrence) (i : Ident) (k : NameKind) → Told Has unbound → Has (ref_key i.name)
    → AllKeyed Has (identifier_in how unbound i k)
identifier-keyed Has how unbound i (kinds.Class t) u h = (one-keyed Has _ (ref_key i.name) (λ e. cc) refl refl h, tt)
identifier-keyed Has how unbound i (kinds.Field f) u h = (one-keyed Has _ (ref_key i.name) (λ e. cc) refl refl h, tt)
identifier-keyed Has how unbound i (kinds.Local t) u h = tt
identifier-keyed Has how unbound i kinds.Package u h = tt
identifier-keyed Has how unbound i kinds.Nothing u h = (u, tt)

identifiers-keyed : (Has : Key → Type 0) (role : Role) (xs : List (Ident × NameKind)) → PairsKeyed Has xs → AllKeyed Has (identifiers_in role xs)
identifiers-keyed Has role [] h = tt
identifiers-keyed Has role (x ∷ []) h = identifier-keyed Has (last_access role) (unbound_last role x.0) x.0 x.1 (unbound-keyed Has role x.0 h.0) h.0
identifiers-keyed Has role (x ∷ y ∷ more) h =
    append-keyed Has (identifier_in Read (unbound_last as_qualifier x.0) x.0 x.1) (identifiers_in role (y ∷ more))
    (identifier-keyed Has Read (unbound_last as_qualifier x.0) x.0 x.1 (unbound-keyed Has as_qualifier x.0 h.0) h.0)
    (identifiers-keyed Has role (y ∷ more) h.1)

names-keyed : (Has : Key → Type 0) (n : List Ident) → IdentsKeyed Has n → AllByRecursion (λ x. Has (ref_key x)) (spelled_name n)
names-keyed Has [] h = tt
names-keyed Has (i ∷ n) h = (h.0, names-keyed Has n h.1)

package-keyed : (Has : Key → Type 0) (role : Role) (run : List Ident) (rest : List (Ident × NameKind)) (counts : Bool) → IdentsKeyed Has run
    → AllKeyed Has (package_in role run rest counts)
package-keyed Has role [] rest counts h = tt
package-keyed Has role (i ∷ run) rest false h = tt
package-keyed Has role (i ∷ run) rest true h = (
  record {
    keyed = record {
      referred = λ k e. absurd (none-some k e);
      packaged = λ e. record { first = i.name; rest = spelled_name run; is = refl; each = names-keyed Has (i ∷ run) h };
    };
    of_kind = (refl, refl);
  },
  tt,
)

pub name-keyed : (Has : Key → Type 0) (role : Role) (n : List Ident) (ks : List NameKind) → IdentsKeyed Has n → AllKeyed Has (occurrences_in role n ks)
name-keyed Has role n ks h =
    let xs = zip n (with_last_kind role ks) in
    let r = package_run [] xs in
    let z = zip-keyed Has n (with_last_kind role ks) h in
    append-keyed Has (package_in role r.run r.rest (counts_before role r.rest)) (identifiers_in role r.rest)
    (package-keyed Has role r.run r.rest (counts_before role r.rest) (run-keyed Has [] xs tt z))
    (identifiers-keyed Has role r.rest (rest-keyed Has [] xs z))
