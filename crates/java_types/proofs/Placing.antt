-- The outline of a document, from the place of the document.
use Rattle.std.proofs.Common.{◌≡◌, ◌+◌, ◌<◌, ℕ, zero, suc, Bool, true, false, cond, ◌&&◌, List, [], ◌∷◌, Some, None, map, length, get_or, bytes_eq, refl, sym, ap, ◌∙◌, subst, arith, true≢false}
use Rattle.std.specs.List.Sorted.{IsStrictlySortedBy}
use Rattle.std.proofs.lemmas.Slice.Eq.{bytes_eq-Decides}
use Rattle.std.specs.declared.cmp.Ordering.TheVariants.{Less}
use Rattle.java_tree.specs.declared.types.DocPath.{DocPath}
use Rattle.java_model.specs.Names.Lists.{Identifiers}
use Rattle.java_model.specs.Names.Environments.{Env, same_path}
use Rattle.java_types.specs.Documents.{document_of, path_cmp, HasNone, IsPlaceOf}
use Rattle.java_types.specs.Entries.{firsts_of, IsEnvOf}
use Rattle.java_types.specs.Placed.{placed_among}
use Rattle.java_types.specs.Tables.{Keys}
use Rattle.java_types.specs.declared.documents.KeptDocument.{KeptDocument}
use Rattle.java_types.specs.declared.entry.Entry.{Entry}
use Rattle.java_types.proofs.Paths.{paths_of, only_later, all_at}
use Rattle.java_types.proofs.TypeAt.{firsts_length}

either_way : (x y : List ℕ) (b c : Bool) → bytes_eq x y ≡ b → bytes_eq y x ≡ c → b ≡ c
either_way x y true true e f = refl
either_way x y true false e f = absurd (true≢false (sym ((bytes_eq-Decides y x).1 (sym ((bytes_eq-Decides x y).0 e))) ∙ f))
either_way x y false true e f = absurd (true≢false (sym ((bytes_eq-Decides x y).1 (sym ((bytes_eq-Decides y x).0 f))) ∙ e))
either_way x y false false e f = refl

bytes_swapped : (x y : List ℕ) → bytes_eq x y ≡ bytes_eq y x
bytes_swapped x y = either_way x y (bytes_eq x y) (bytes_eq y x) refl refl

swapped : (p q : DocPath) → same_path p q ≡ same_path q p
swapped p q = ap (λ b. b && bytes_eq p.path q.path) (bytes_swapped p.container q.container) ∙ ap (λ b. bytes_eq q.container p.container && b) (bytes_swapped p.path q.path)

none_placed : (path : DocPath) (first : ℕ) (ds : List KeptDocument) → HasNone ds path → placed_among path first (map document_of ds) ≡ None
none_placed path first [] none = refl
none_placed path first (d ∷ ds) none =
    ap (λ b. cond b (Some (record { outline = d.outline; first = first })) (placed_among path (first + length d.outline.types) (map document_of ds))) (swapped d.path path ∙ none.0)
    ∙ none_placed path (first + length d.outline.types) ds none.1

placed_at : (path : DocPath) (first : ℕ) (ds : List KeptDocument) (k : ℕ) (x : KeptDocument) → IsStrictlySortedBy path_cmp (map (λ d. d.path) ds) → k < length ds
    → same_path path (get_or ds k x).path ≡ true
    → placed_among path first (map document_of ds) ≡ Some (record { outline = (get_or ds k x).outline; first = get_or (firsts_of first (map document_of ds)) k 0 })
unfolding IsStrictlySortedBy
placed_at path first [] k x sorted h same = absurd (omega arith)
placed_at path first (d ∷ ds) zero x sorted h same =
    ap (λ b. cond b (Some (record { outline = d.outline; first = first })) (placed_among path (first + length d.outline.types) (map document_of ds))) (swapped d.path path ∙ same)
placed_at path first (d ∷ ds) (suc k) x sorted h same =
    let below = all_at (λ p. path_cmp d.path p ≡ Less) (λ (e : KeptDocument). e.path) ds k x sorted.0 (omega arith) in
    ap (λ b. cond b (Some (record { outline = d.outline; first = first })) (placed_among path (first + length d.outline.types) (map document_of ds)))
    (swapped d.path path ∙ only_later path d.path (get_or ds k x).path below same)
    ∙ placed_at path (first + length d.outline.types) ds k x sorted.1 (omega arith) same

module _ (env : Env) (ds seen : List KeptDocument) (fs : List ℕ) (es : List Entry) (ns ms : Keys) (ps : List Identifiers) (path : DocPath) (are : map document_of ds ≡ env) (same : seen ≡ ds) where
  pub nowhere : HasNone seen path → None ≡ placed_among path 0 env
  nowhere none = sym (ap (placed_among path 0) (sym are) ∙ none_placed path 0 ds (subst (λ xs. HasNone xs path) same none))

  module _ {l : ℕ} (kept : IsEnvOf (map document_of ds) fs es ns ms ps l) (k : ℕ) (x : KeptDocument) (place : IsPlaceOf seen path k) (at : x ≡ get_or seen k x) where
    within : k < length ds
    within = subst (λ xs. k < length xs) same place.within

    pub has_first : k < length fs
    has_first = let l = firsts_length 0 ds in let m = ap length kept.firsts_are in let w = within in omega (arith, l, m, w)

    here : (get_or ds k x).outline ≡ x.outline
    here = sym (ap (λ (d : KeptDocument). d.outline) (at ∙ ap (λ xs. get_or xs k x) same))

    pub somewhere : (first : ℕ) → first ≡ get_or fs k 0 → Some (record { outline = x.outline; first = first }) ≡ placed_among path 0 env
    somewhere first is =
        sym (ap (placed_among path 0) (sym are)
        ∙ placed_at path 0 ds k x (subst (IsStrictlySortedBy path_cmp) (paths_of ds) kept.order) within (subst (λ xs. same_path path (get_or xs k x).path ≡ true) same (place.same x))
        ∙ (λ i. Some (record { outline = here i; first = (ap (λ gs. get_or gs k 0) (sym kept.firsts_are) ∙ sym is) i })))
