-- The members of types, one type after the other.
use Rattle.std.proofs.Common.{◌≡◌, ◌+◌, ◌<◌, ℕ, List, [], ◌∷◌, ◌++◌, length, get_or, take, flat_map, sym, ap, ◌∙◌, subst}
use Rattle.std.proofs.lemmas.Grind.{flat_map-append}
use Rattle.std.proofs.lemmas.List.{append-nil, take_more}
use Rattle.java_tree.specs.declared.occurrence.TypeId.{TypeId}
use Rattle.java_tree.specs.declared.types.JType.{JType}
use Rattle.java_model.specs.Names.TypeNames.{class_of}
use Rattle.java_members.specs.Members.{Same}
use Rattle.java_members.specs.declared.member.Member.{Member}
use Rattle.java_members.proofs.Members.{same-append, same-both, same-if, same-refl}

pub no-class : (ms : List Member) → Same ms (ms ++ [])
no-class ms = same-if ms (ms ++ []) (sym (append-nil ms))

pub one-class : (ms found after own : List Member) → Same found own → after ≡ ms ++ found → Same after (ms ++ (own ++ []))
one-class ms found after own s e =
    subst (λ xs. Same xs (ms ++ (own ++ []))) (sym e) (subst (λ xs. Same (ms ++ found) (ms ++ xs)) (sym (append-nil own)) (same-append ms ms found own (same-refl ms) s))

flat-more : (all : TypeId → List Member) (ts : List JType) (t : JType) → flat_map all (flat_map class_of (ts ++ t ∷ [])) ≡ flat_map all (flat_map class_of ts) ++ flat_map all (class_of t)
flat-more all ts t =
    ap (flat_map all) (flat_map-append class_of ts (t ∷ []) ∙ ap (λ us. flat_map class_of ts ++ us) (append-nil (class_of t)))
    ∙ flat_map-append all (flat_map class_of ts) (class_of t)

pub one-more-type : (all : TypeId → List Member) (ts : List JType) (i : ℕ) (t : JType) (ms after : List Member) → i < length ts → t ≡ get_or ts i t
    → Same ms (flat_map all (flat_map class_of (take i ts))) → Same after (ms ++ flat_map all (class_of t)) → Same after (flat_map all (flat_map class_of (take (i + 1) ts)))
one-more-type all ts i t ms after l at s a =
    let so : flat_map all (flat_map class_of (take i ts)) ++ flat_map all (class_of t) ≡ flat_map all (flat_map class_of (take (i + 1) ts)) =
    sym (ap (λ us. flat_map all (flat_map class_of us)) (take_more ts i t l ∙ ap (λ y. take i ts ++ y ∷ []) (sym at)) ∙ flat-more all (take i ts) t) in
    same-both after (ms ++ flat_map all (class_of t)) (flat_map all (flat_map class_of (take (i + 1) ts))) a
    (subst (λ us. Same (ms ++ flat_map all (class_of t)) us) so
    (same-append ms (flat_map all (flat_map class_of (take i ts))) (flat_map all (class_of t)) (flat_map all (class_of t)) s (same-refl (flat_map all (class_of t)))))
