-- Entries by name, and the classes of `java.lang` that no document declares.
use Rattle.std.proofs.Common.{◌≡◌, ℕ, Bool, true, false, cond, ◌||◌, List, [], ◌∷◌, ◌++◌, map, length, refl, sym, ap, ◌∙◌}
use Rattle.std.proofs.lemmas.List.{length-map, map-append}
use Rattle.std.specs.List.{list_any}
use Rattle.java_model.specs.Names.Lists.{Identifiers, with_dots}
use Rattle.java_model.specs.Names.Environments.{Declared, is_java_lang, java_lang, undeclared}
use Rattle.java_types.specs.Entries.{entry_of, entry_is_named, AddsJavaLang}
use Rattle.java_types.specs.declared.entry.Entry.{Entry}

-- ---- entries by name

any_named : (q : List ℕ) (names : Identifiers) (ds : List Declared) → list_any (entry_is_named q names) (map entry_of ds) ≡ list_any (λ d. entry_is_named q names (entry_of d)) ds
any_named q names [] = refl
any_named q names (d ∷ ds) = ap (λ b. entry_is_named q names (entry_of d) || b) (any_named q names ds)

-- whether a class of `java.lang` is declared
any_java_lang : (name q : List ℕ) (names : Identifiers) (ds : List Declared) (es : List Entry) → q ≡ with_dots java_lang → names ≡ name ∷ [] → es ≡ map entry_of ds
    → list_any (is_java_lang name) ds ≡ list_any (entry_is_named q names) es
any_java_lang name q names ds es is so are =
    sym (ap (λ r. list_any (entry_is_named r names) es) is ∙ ap (λ ns. list_any (entry_is_named (with_dots java_lang) ns) es) so
    ∙ ap (list_any (entry_is_named (with_dots java_lang) (name ∷ []))) are ∙ any_named (with_dots java_lang) (name ∷ []) ds)

pub java_lang_there : (name q : List ℕ) (names : Identifiers) (seen es : List Entry) (t : Bool) → t ≡ list_any (entry_is_named q names) seen → t ≡ true
    → seen ≡ es → q ≡ with_dots java_lang → names ≡ name ∷ [] → AddsJavaLang name es es
java_lang_there name q names seen es t tested there same is so = record {
  adds = λ ds are. are ∙ sym (ap (λ b. map entry_of (cond b ds (ds ++ undeclared (length ds) name ∷ []))) (any_java_lang name q names ds seen is so (same ∙ are) ∙ sym tested ∙ there));
}

pub java_lang_added : (name q : List ℕ) (names : Identifiers) (seen es es' : List Entry) (t : Bool) (id : ℕ) (e : Entry) → t ≡ list_any (entry_is_named q names) seen → t ≡ false
    → seen ≡ es → q ≡ with_dots java_lang → names ≡ name ∷ [] → e ≡ entry_of (undeclared id name) → id ≡ length es → es' ≡ es ++ e ∷ [] → AddsJavaLang name es es'
java_lang_added name q names seen es es' t id e tested absent same is so made last added = record {
  adds = λ ds are.
      let long : id ≡ length ds = last ∙ ap length are ∙ length-map ds entry_of in
      added ∙ ap (λ x. es ++ x ∷ []) (made ∙ ap (λ n. entry_of (undeclared n name)) long) ∙ ap (λ xs. xs ++ entry_of (undeclared (length ds) name) ∷ []) are
      ∙ sym (map-append entry_of ds (undeclared (length ds) name ∷ []))
      ∙ sym (ap (λ b. map entry_of (cond b ds (ds ++ undeclared (length ds) name ∷ []))) (any_java_lang name q names ds seen is so (same ∙ are) ∙ sym tested ∙ absent));
}
