-- The types of outlines, one outline and one type after the other.
use Rattle.std.proofs.Common.{◌≡◌, ◌+◌, ◌-◌, ◌<◌, ◌≤◌, ℕ, zero, suc, List, [], ◌∷◌, ◌++◌, Option, Some, None, map, length, take, get_or, refl, sym, ap, ◌∙◌, subst, arith, length-append}
use Rattle.std.proofs.lemmas.List.{append-nil, append_assoc, length-map, map-append, map_more, take_more}
use Rattle.java_tree.specs.declared.outline.Outline.{Outline}
use Rattle.java_tree.specs.declared.outline.OutlineType.{OutlineType}
use Rattle.java_tree.specs.declared.types.DocPath.{DocPath}
use Rattle.java_model.specs.Names.Environments.{EnvDocument, Declared, declared_in, declared_by, outward}
use Rattle.java_types.specs.Documents.{document_of}
use Rattle.java_types.specs.Entries.{entry_of, firsts_of}
use Rattle.java_types.specs.declared.documents.KeptDocument.{KeptDocument}
use Rattle.java_types.specs.declared.entry.Entry.{Entry}

abbrev pub one : Option DocPath → Outline → ℕ → ℕ → OutlineType → Declared
one doc o first n t = record { doc = doc; outline = o; first = first; number = n; type = t }

-- ---- one more type of an outline

in_push : (doc : Option DocPath) (o : Outline) (first k : ℕ) (ts : List OutlineType) (t : OutlineType)
    → declared_in doc o first k (ts ++ t ∷ []) ≡ declared_in doc o first k ts ++ one doc o first (k + length ts) t ∷ []
in_push doc o first k [] t = let same : k ≡ k + 0 = omega arith in ap (λ n. one doc o first n t ∷ []) same
in_push doc o first k (u ∷ ts) t =
    let same : (k + 1) + length ts ≡ k + suc (length ts) = omega arith in
    ap (λ ds. one doc o first k u ∷ ds) (in_push doc o first (k + 1) ts t)
    ∙ ap (λ n. one doc o first k u ∷ (declared_in doc o first (k + 1) ts ++ one doc o first n t ∷ [])) same

length_take : {X : Type 0} (xs : List X) (i : ℕ) → i < length xs → length (take i xs) ≡ i
length_take [] i h = absurd (omega arith)
length_take (x ∷ xs) zero h = refl
length_take (x ∷ xs) (suc i) h = ap suc (length_take xs i (omega arith))

pub types_next : (doc : Option DocPath) (o : Outline) (first : ℕ) (ts seen : List OutlineType) (i k : ℕ) (t : OutlineType) (before es es' : List Entry) (e : Entry)
    → seen ≡ ts → i < length seen → t ≡ get_or seen i t → k ≡ i → es ≡ before ++ map entry_of (declared_in doc o first 0 (take i ts))
    → e ≡ entry_of (one doc o first k t) → es' ≡ es ++ e ∷ []
    → es' ≡ before ++ map entry_of (declared_in doc o first 0 (take (i + 1) ts))
types_next doc o first ts seen i k t before es es' e same within item counted so is pushed =
    let h : i < length ts = subst (λ xs. i < length xs) same within in
    let at : t ≡ get_or ts i t = item ∙ ap (λ xs. get_or xs i t) same in
    let here : 0 + length (take i ts) ≡ i = let l = length_take ts i h in omega (arith, l) in
    let more : declared_in doc o first 0 (take (i + 1) ts) ≡ declared_in doc o first 0 (take i ts) ++ one doc o first i (get_or ts i t) ∷ [] =
    ap (declared_in doc o first 0) (take_more ts i t h) ∙ in_push doc o first 0 (take i ts) (get_or ts i t)
    ∙ ap (λ n. declared_in doc o first 0 (take i ts) ++ one doc o first n (get_or ts i t) ∷ []) here in
    let made : e ≡ entry_of (one doc o first i (get_or ts i t)) = is ∙ ap (λ n. entry_of (one doc o first n t)) counted ∙ ap (λ u. entry_of (one doc o first i u)) at in
    pushed ∙ ap (λ xs. xs ++ e ∷ []) so ∙ ap (λ y. (before ++ map entry_of (declared_in doc o first 0 (take i ts))) ++ y ∷ []) made
    ∙ append_assoc before (map entry_of (declared_in doc o first 0 (take i ts))) (entry_of (one doc o first i (get_or ts i t)) ∷ [])
    ∙ ap (λ xs. before ++ xs) (sym (map-append entry_of (declared_in doc o first 0 (take i ts)) (one doc o first i (get_or ts i t) ∷ [])))
    ∙ ap (λ ds. before ++ map entry_of ds) (sym more)

-- ---- one more document

pub length_in : (doc : Option DocPath) (o : Outline) (first k : ℕ) (ts : List OutlineType) → length (declared_in doc o first k ts) ≡ length ts
length_in doc o first k [] = refl
length_in doc o first k (t ∷ ts) = ap suc (length_in doc o first (k + 1) ts)

abbrev own : EnvDocument → ℕ → List Declared
own d first = declared_in (Some d.path) d.outline first 0 d.outline.types

by_push : (first : ℕ) (ds : List EnvDocument) (d : EnvDocument) → declared_by first (ds ++ d ∷ []) ≡ declared_by first ds ++ own d (first + length (declared_by first ds))
by_push first [] d = let same : first ≡ first + 0 = omega arith in append-nil (own d first) ∙ ap (own d) same
by_push first (e ∷ ds) d =
    let next : ℕ = first + length e.outline.types in
    let long : (first + length e.outline.types) + length (declared_by (first + length e.outline.types) ds) ≡ first + length (own e first ++ declared_by (first + length e.outline.types) ds) =
    let a = length-append (own e first) (declared_by (first + length e.outline.types) ds) in
    let b = length_in (Some e.path) e.outline first 0 e.outline.types in omega (arith, a, b) in
    ap (λ xs. own e first ++ xs) (by_push next ds d) ∙ sym (append_assoc (own e first) (declared_by next ds) (own d (next + length (declared_by next ds))))
    ∙ ap (λ n. (own e first ++ declared_by next ds) ++ own d n) long

firsts_push : (first : ℕ) (ds : List EnvDocument) (d : EnvDocument) → firsts_of first (ds ++ d ∷ []) ≡ firsts_of first ds ++ (first + length (declared_by first ds)) ∷ []
firsts_push first [] d = let same : first ≡ first + 0 = omega arith in ap (λ n. n ∷ []) same
firsts_push first (e ∷ ds) d =
    let long : (first + length e.outline.types) + length (declared_by (first + length e.outline.types) ds) ≡ first + length (own e first ++ declared_by (first + length e.outline.types) ds) =
    let a = length-append (own e first) (declared_by (first + length e.outline.types) ds) in
    let b = length_in (Some e.path) e.outline first 0 e.outline.types in omega (arith, a, b) in
    ap (λ xs. first ∷ xs) (firsts_push (first + length e.outline.types) ds d)
    ∙ ap (λ n. first ∷ (firsts_of (first + length e.outline.types) ds ++ n ∷ [])) long

-- how many entries there are before a document
entries_before : (ds : List EnvDocument) (es : List Entry) → es ≡ map entry_of (declared_by 0 ds) → length es ≡ 0 + length (declared_by 0 ds)
entries_before ds es so = let l = length-map (declared_by 0 ds) entry_of in let m = ap length so in omega (arith, l, m)

pub entries_next : (docs : List KeptDocument) (i : ℕ) (x : KeptDocument) (es es' : List Entry) → i < length docs → x ≡ get_or docs i x
    → es ≡ map entry_of (declared_by 0 (map document_of (take i docs)))
    → es' ≡ es ++ map entry_of (declared_in (Some x.path) x.outline (length es) 0 x.outline.types)
    → es' ≡ map entry_of (declared_by 0 (map document_of (take (i + 1) docs)))
entries_next docs i x es es' h at so added =
    let d = document_of (get_or docs i x) in
    let ds = map document_of (take i docs) in
    let before = entries_before ds es so in
    added ∙ ap (λ (y : KeptDocument). es ++ map entry_of (own (document_of y) (length es))) at
    ∙ ap (λ n. es ++ map entry_of (own d n)) before ∙ ap (λ xs. xs ++ map entry_of (own d (0 + length (declared_by 0 ds)))) so
    ∙ sym (map-append entry_of (declared_by 0 ds) (own d (0 + length (declared_by 0 ds))))
    ∙ ap (map entry_of) (sym (by_push 0 ds d)) ∙ ap (λ xs. map entry_of (declared_by 0 xs)) (sym (map_more document_of docs i x h))

pub firsts_next : (docs : List KeptDocument) (i : ℕ) (x : KeptDocument) (es : List Entry) (fs fs' : List ℕ) → i < length docs
    → es ≡ map entry_of (declared_by 0 (map document_of (take i docs)))
    → fs ≡ firsts_of 0 (map document_of (take i docs)) → fs' ≡ fs ++ length es ∷ []
    → fs' ≡ firsts_of 0 (map document_of (take (i + 1) docs))
firsts_next docs i x es fs fs' h so are pushed =
    let d = document_of (get_or docs i x) in
    let ds = map document_of (take i docs) in
    let before = entries_before ds es so in
    pushed ∙ ap (λ n. fs ++ n ∷ []) before ∙ ap (λ xs. xs ++ (0 + length (declared_by 0 ds)) ∷ []) are
    ∙ sym (firsts_push 0 ds d) ∙ ap (firsts_of 0) (sym (map_more document_of docs i x h))

-- ---- the types around a type

pub around_none : (parent : ℕ → Option ℕ) (d : ℕ) → outward parent d None ≡ []
around_none parent zero = refl
around_none parent (suc d) = refl

pub around_more : (parent : ℕ → Option ℕ) (n i outer : ℕ) (now after : Option ℕ) (xs ys all : List ℕ) → i < n → xs ++ outward parent (n - i) now ≡ all
    → now ≡ Some outer → ys ≡ xs ++ outer ∷ [] → after ≡ parent outer → ys ++ outward parent (n - (i + 1)) after ≡ all
around_more parent n i outer now after xs ys all h so at pushed next =
    let left : n - i ≡ suc (n - (i + 1)) = omega arith in
    ap (λ o. ys ++ outward parent (n - (i + 1)) o) next
    ∙ ap (λ zs. zs ++ outward parent (n - (i + 1)) (parent outer)) pushed ∙ append_assoc xs (outer ∷ []) (outward parent (n - (i + 1)) (parent outer))
    ∙ ap (λ k. xs ++ outward parent k (Some outer)) (sym left) ∙ ap (λ o. xs ++ outward parent (n - i) o) (sym at) ∙ so

pub around_begun : (parent : ℕ → Option ℕ) (n outer : ℕ) (xs : List ℕ) → xs ≡ [] → xs ++ outward parent (n - 0) (Some outer) ≡ outward parent n (Some outer)
around_begun parent n outer xs none = let all : n - 0 ≡ n = omega arith in ap (λ ys. ys ++ outward parent (n - 0) (Some outer)) none ∙ ap (λ k. outward parent k (Some outer)) all

pub around_done : (parent : ℕ → Option ℕ) (n k : ℕ) (next : Option ℕ) (xs all : List ℕ) → n ≤ k → xs ++ outward parent (n - k) next ≡ all → xs ≡ all
around_done parent n k next xs all past so =
    let done : n - k ≡ 0 = omega arith in sym (append-nil xs) ∙ ap (λ d. xs ++ outward parent d next) (sym done) ∙ so

pub around_ended : (parent : ℕ → Option ℕ) (d : ℕ) (next : Option ℕ) (xs all : List ℕ) → next ≡ None → xs ++ outward parent d next ≡ all → xs ≡ all
around_ended parent d next xs all none so = sym (append-nil xs) ∙ ap (λ ys. xs ++ ys) (sym (around_none parent d)) ∙ ap (λ o. xs ++ outward parent d o) (sym none) ∙ so
