-- Each type has the number that it stands at.
use Rattle.std.proofs.Common.{◌≡◌, ◌+◌, ℕ, zero, suc, Bool, true, false, cond, List, [], ◌∷◌, ◌++◌, Option, Some, length, sym, ap, ◌∙◌, subst, arith}
use Rattle.std.specs.Prelude.{slice_get, ⊤}
use Rattle.std.specs.List.{list_any}
use Rattle.std.proofs.lemmas.Option.{none-some, same_Some}
use Rattle.java_tree.specs.declared.occurrence.TypeId.{TypeId}
use Rattle.java_tree.specs.declared.outline.Outline.{Outline}
use Rattle.java_tree.specs.declared.outline.OutlineType.{OutlineType}
use Rattle.java_tree.specs.declared.types.DocPath.{DocPath}
use Rattle.java_model.specs.Names.Lists.{Identifier}
use Rattle.java_model.specs.Names.Environments.{Env, EnvDocument, Declared, declared, declared_at, declared_by, declared_in, id_of, is_java_lang, object_name, string_name, type_id, undeclared, with_java_lang}
use Rattle.java_types.proofs.Declaring.{length_in}

-- the numbers rise by one from this on
RiseFrom : ℕ → List Declared → Type 0
RiseFrom n [] = ⊤
RiseFrom n (d ∷ ds) = (d.first + d.number ≡ n) × RiseFrom (suc n) ds

rise_both : (n : ℕ) (xs ys : List Declared) → RiseFrom n xs → RiseFrom (n + length xs) ys → RiseFrom n (xs ++ ys)
unfolding RiseFrom
rise_both n [] ys h t = let none : n + 0 ≡ n = omega arith in subst (λ m. RiseFrom m ys) none t
rise_both n (x ∷ xs) ys h t =
    let next : n + suc (length xs) ≡ suc n + length xs = omega arith in (h.0, rise_both (suc n) xs ys h.1 (subst (λ m. RiseFrom m ys) next t))

rise_in : (doc : Option DocPath) (o : Outline) (first k n : ℕ) (ts : List OutlineType) → first + k ≡ n → RiseFrom n (declared_in doc o first k ts)
unfolding RiseFrom
rise_in doc o first k n [] e = tt
rise_in doc o first k n (t ∷ ts) e = (e, rise_in doc o first (k + 1) (suc n) ts (omega (arith, e)))

rise_by : (first : ℕ) (ds : List EnvDocument) → RiseFrom first (declared_by first ds)
unfolding RiseFrom
rise_by first [] = tt
rise_by first (d ∷ ds) =
    let own = declared_in (Some d.path) d.outline first 0 d.outline.types in
    let long : first + length d.outline.types ≡ first + length own = ap (λ n. first + n) (sym (length_in (Some d.path) d.outline first 0 d.outline.types)) in
    rise_both first own (declared_by (first + length d.outline.types) ds) (rise_in (Some d.path) d.outline first 0 first d.outline.types (omega arith))
    (subst (λ n. RiseFrom n (declared_by (first + length d.outline.types) ds)) long (rise_by (first + length d.outline.types) ds))

rise_with : (name : Identifier) (ds : List Declared) (b : Bool) → RiseFrom 0 ds → RiseFrom 0 (cond b ds (ds ++ undeclared (length ds) name ∷ []))
unfolding RiseFrom
rise_with name ds true h = h
rise_with name ds false h = rise_both 0 ds (undeclared (length ds) name ∷ []) h ((omega arith), tt)

rise_at : (n i : ℕ) (ds : List Declared) (d : Declared) → RiseFrom n ds → slice_get ds i ≡ Some d → d.first + d.number ≡ n + i
unfolding RiseFrom
rise_at n i [] d h e = absurd (none-some d e)
rise_at n zero (x ∷ ds) d h e = let here = h.0 in ap (λ (y : Declared). y.first + y.number) (sym (same_Some x d e)) ∙ omega (arith, here)
rise_at n (suc i) (x ∷ ds) d h e = let rest = rise_at (suc n) i ds d h.1 e in omega (arith, rest)

pub own_id : (env : Env) (id : TypeId) (d : Declared) → declared_at env id ≡ Some d → id_of d ≡ id
own_id env id d at =
    let own = declared_by 0 env in let first = with_java_lang object_name own in
    let all = rise_with string_name first (list_any (is_java_lang string_name) first) (rise_with object_name own (list_any (is_java_lang object_name) own) (rise_by 0 env)) in
    let number = rise_at 0 id.0 (declared env) d all at in ap type_id (let same : d.first + d.number ≡ id.0 = omega (arith, number) in same)
