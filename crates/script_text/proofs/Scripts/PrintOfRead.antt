-- What is read is spelled so, each byte of it.
use Rattle.std.proofs.Common.{◌≡◌, ℕ, zero, suc, ◌+◌, ◌^◌, ◌<◌, ◌≤◌, Bool, true, false, cond, eqb, leb, ltb, List, [], ◌∷◌, ◌++◌, length, get_or, take, drop, Option, Some, None, ◌⊎◌, inl, inr, refl, sym, ap, subst, ◌∙◌, append_assoc, arith}
use Rattle.std.specs.Prelude.{◌&&◌, nat_eq, slice_index, ⊤, codes}
use Rattle.std.specs.Fmt.{decimal}
use Rattle.std.specs.List.{flat_map, starts_with, AllByRecursion}
use Rattle.std.specs.Str.{IsUtf8, is_utf8, bytes_eq}
use Rattle.std.specs.Str.Parse.{digits_value}
use Rattle.std.proofs.lemmas.Bool.{ltb-true, leb-true, eqb-true, and_parts}
use Rattle.std.proofs.lemmas.List.{take-append-drop, drop_more, length-take-le}
use Rattle.std.proofs.lemmas.Option.{same_Some, cond_some}
use Rattle.std.proofs.lemmas.Slice.Eq.{bytes_eq-Decides}
use Rattle.std.proofs.lemmas.Str.{IsUtf8-from_is_utf8}
use Rattle.java_tree.specs.Names.{is_name, is_container, is_source_path}
use Rattle.java_tree.specs.declared.doc_name.Scope.{Scope}
use Rattle.java_tree.specs.declared.search.Limit.{Limit}
use Rattle.java_tree.specs.declared.search.Rule.{Rule}
use Rattle.java_tree.specs.declared.search.What.{What}
use Rattle.java_model.specs.Documents.{Document}
use Rattle.java_model.specs.ScriptText.{doc_text, IsScriptDoc}
use Rattle.script_text.specs.declared.script.Search.{Search}
use Rattle.script_text.specs.Spelling.{search_text, is_word, names_containers, IsScriptSearch}
use Rattle.script_text.specs.Words.{what_word, limit_word, rule_word, case_word, scope_word, is_built}
use Rattle.script_text.specs.Inner.Reading.{◌>>=◌, literal_at, field_at, text_in, text_field_at, number_in, number_field_at, text_at, what_in, limit_in, rule_in, case_in, scope_in, word_at, scope_at, doc_at, search_at, docs_at, searches_at}
use Rattle.script_text.proofs.Scripts.SearchWords.{what_takes, limit_takes, rule_takes, case_takes, scope_takes}

-- the value of a step that was taken
bind_some : {A B : Type 0} (o : Option A) (f : A → Option B) (y : B) → (o >>= f) ≡ Some y → (x : A) × (o ≡ Some x) × (f x ≡ Some y)
bind_some (Some x) f y e = (x, refl, e)
bind_some None f y e = absurd cc

-- the same, with what follows from it
pub taken : {A B P : Type 0} (o : Option A) (f : A → Option B) (y : B) → (o >>= f) ≡ Some y → ((x : A) → o ≡ Some x → f x ≡ Some y → P) → P
taken (Some x) f y e then = then x refl e
taken None f y e then = absurd cc

-- which way a test went
chosen : {A : Type 0} (b : Bool) (x y z : A) → cond b x y ≡ z → ((b ≡ true) × (x ≡ z)) ⊎ ((b ≡ false) × (y ≡ z))
chosen true x y z e = inl (refl, e)
chosen false x y z e = inr (refl, e)

-- a test that was passed, and the value of the step behind it
guarded : {A : Type 0} (b : Bool) (o : Option A) (y : A) → cond b o None ≡ Some y → (b ≡ true) × (o ≡ Some y)
guarded true o y e = (refl, e)
guarded false o y e = absurd cc

-- ---- fields

pub literal_takes : (literal bytes rest : List ℕ) → literal_at literal bytes ≡ Some rest → bytes ≡ literal ++ rest
literal_takes literal bytes rest e =
    let g = guarded (starts_with nat_eq bytes literal) (Some (drop (length literal) bytes)) rest e in
    let front : literal ≡ take (length literal) bytes = (bytes_eq-Decides literal (take (length literal) bytes)).0 g.0 in
    let after : drop (length literal) bytes ≡ rest = same_Some _ _ g.1 in
    sym (take-append-drop (length literal) bytes) ∙ ap (λ (l : List ℕ). l ++ drop (length literal) bytes) (sym front) ∙ ap (λ (l : List ℕ). literal ++ l) after

pub field_takes : (separator : ℕ) (bytes : List ℕ) (f : List ℕ × List ℕ) → field_at separator bytes ≡ Some f → bytes ≡ f.0 ++ separator ∷ f.1
unfolding field_at
field_takes separator [] f e = absurd cc
field_takes separator (b ∷ bytes) f e =
    elim (chosen (eqb b separator) (Some ([], bytes)) (field_at separator bytes >>= λ g. Some (b ∷ g.0, g.1)) (Some f) e) [
      | inl here ↦ subst (λ (g : List ℕ × List ℕ). b ∷ bytes ≡ g.0 ++ separator ∷ g.1) (same_Some ([], bytes) f here.1) (ap (λ (c : ℕ). c ∷ bytes) (eqb-true b separator here.0))
      | inr there ↦
          let r = bind_some (field_at separator bytes) (λ g. Some (b ∷ g.0, g.1)) f there.1 in
          subst (λ (g : List ℕ × List ℕ). b ∷ bytes ≡ g.0 ++ separator ∷ g.1) (same_Some (b ∷ r.0.0, r.0.1) f r.2) (ap (λ (l : List ℕ). b ∷ l) (field_takes separator bytes r.0 r.1))
    ]

pub text_in_takes : (bytes text : List ℕ) → text_in bytes ≡ Some text → (bytes ≡ text) × IsUtf8 text
unfolding text_in
text_in_takes bytes text e =
    let g = cond_some (is_utf8 bytes) bytes text e in
    (g.1, subst IsUtf8 g.1 (IsUtf8-from_is_utf8 bytes g.0))

pub text_field_takes : (separator : ℕ) (bytes : List ℕ) (f : List ℕ × List ℕ) → text_field_at separator bytes ≡ Some f → (bytes ≡ f.0 ++ separator ∷ f.1) × IsUtf8 f.0
unfolding text_field_at
text_field_takes separator bytes f e =
    let a = bind_some (field_at separator bytes) (λ field. text_in field.0 >>= λ text. Some (text, field.1)) f e in
    let b = bind_some (text_in a.0.0) (λ text. Some (text, a.0.1)) f a.2 in
    let t = text_in_takes a.0.0 b.0 b.1 in
    let whole : bytes ≡ b.0 ++ separator ∷ a.0.1 = field_takes separator bytes a.0 a.1 ∙ ap (λ (l : List ℕ). l ++ separator ∷ a.0.1) t.0 in
    subst (λ (g : List ℕ × List ℕ). (bytes ≡ g.0 ++ separator ∷ g.1) × IsUtf8 g.0) (same_Some (b.0, a.0.1) f b.2) (whole, t.1)

pub number_in_takes : (limit : ℕ) (word : List ℕ) (n : ℕ) → number_in limit word ≡ Some n → (word ≡ decimal n) × (n ≤ limit)
unfolding number_in
number_in_takes limit word n e =
    let m = digits_value 10 word in
    let g = cond_some (leb m limit && bytes_eq (decimal m) word) m n e in
    let parts = and_parts (leb m limit) (bytes_eq (decimal m) word) g.0 in
    subst (λ (k : ℕ). (word ≡ decimal k) × (k ≤ limit)) g.1 (sym ((bytes_eq-Decides (decimal m) word).0 parts.1), leb-true m limit parts.0)

pub number_field_takes : (separator limit : ℕ) (bytes : List ℕ) (f : ℕ × List ℕ) → number_field_at separator limit bytes ≡ Some f → (bytes ≡ decimal f.0 ++ separator ∷ f.1) × (f.0 ≤ limit)
unfolding number_field_at
number_field_takes separator limit bytes f e =
    let a = bind_some (field_at separator bytes) (λ field. number_in limit field.0 >>= λ n. Some (n, field.1)) f e in
    let b = bind_some (number_in limit a.0.0) (λ n. Some (n, a.0.1)) f a.2 in
    let t = number_in_takes limit a.0.0 b.0 b.1 in
    let whole : bytes ≡ decimal b.0 ++ separator ∷ a.0.1 = field_takes separator bytes a.0 a.1 ∙ ap (λ (l : List ℕ). l ++ separator ∷ a.0.1) t.0 in
    subst (λ (g : ℕ × List ℕ). (bytes ≡ decimal g.0 ++ separator ∷ g.1) × (g.0 ≤ limit)) (same_Some (b.0, a.0.1) f b.2) (whole, t.1)

pub text_takes : (len : ℕ) (bytes : List ℕ) (t : List ℕ × List ℕ) → text_at len bytes ≡ Some t → (bytes ≡ t.0 ++ 10 ∷ t.1) × IsUtf8 t.0 × (length t.0 ≡ len)
unfolding text_at
text_takes len bytes t e =
    let g = guarded (ltb len (length bytes) && eqb (slice_index bytes len) 10) (text_in (take len bytes) >>= λ text. Some (text, drop (len + 1) bytes)) t e in
    let parts = and_parts (ltb len (length bytes)) (eqb (slice_index bytes len) 10) g.0 in
    let lt : len < length bytes = ltb-true _ _ parts.0 in
    let lf : get_or bytes len 0 ≡ 10 = eqb-true _ _ parts.1 in
    let a = bind_some (text_in (take len bytes)) (λ text. Some (text, drop (len + 1) bytes)) t g.1 in
    let u = text_in_takes (take len bytes) a.0 a.1 in
    let whole : bytes ≡ take len bytes ++ 10 ∷ drop (len + 1) bytes =
    sym (take-append-drop len bytes) ∙ ap (λ (l : List ℕ). take len bytes ++ l) (drop_more bytes len 0 lt ∙ ap (λ (b : ℕ). b ∷ drop (len + 1) bytes) lf) in
    let same : bytes ≡ a.0 ++ 10 ∷ drop (len + 1) bytes = whole ∙ ap (λ (l : List ℕ). l ++ 10 ∷ drop (len + 1) bytes) u.0 in
    let long : length a.0 ≡ len = sym (ap length u.0) ∙ length-take-le len bytes (omega arith) in
    subst (λ (g : List ℕ × List ℕ). (bytes ≡ g.0 ++ 10 ∷ g.1) × IsUtf8 g.0 × (length g.0 ≡ len)) (same_Some (a.0, drop (len + 1) bytes) t a.2) (same, u.1, long)

-- ---- lines

-- a line of its parts, with what follows
doc_joined : (bytes r0 r1 r2 r3 r4 container path stamp len text rest : List ℕ) → bytes ≡ codes "doc " ++ r0 → r0 ≡ container ++ 32 ∷ r1 → r1 ≡ path ++ 32 ∷ r2 → r2 ≡ stamp ++ 32 ∷ r3 → r3 ≡ len ++ 10 ∷ r4 → r4 ≡ text ++ 10 ∷ rest
    → bytes ≡ (codes "doc " ++ container ++ codes " " ++ path ++ codes " " ++ stamp ++ codes " " ++ len ++ (10 ∷ []) ++ text ++ (10 ∷ [])) ++ rest
doc_joined bytes r0 r1 r2 r3 r4 container path stamp len text rest e0 e1 e2 e3 e4 e5 = rw (e0, e1, e2, e3, e4, e5) (simp append_assoc)

search_joined : (bytes r0 r1 r2 r3 r4 r5 r6 r7 name what limit rule case scope pattern rest : List ℕ) → bytes ≡ codes "@1 search " ++ r0 → r0 ≡ name ++ 32 ∷ r1
    → r1 ≡ codes "wait " ++ r2 → r2 ≡ what ++ 32 ∷ r3 → r3 ≡ limit ++ 32 ∷ r4 → r4 ≡ rule ++ 32 ∷ r5 → r5 ≡ case ++ 32 ∷ r6 → r6 ≡ scope ++ 32 ∷ r7
    → r7 ≡ pattern ++ 10 ∷ rest
    → bytes ≡ (codes "@1 search " ++ name ++ codes " wait " ++ what ++ codes " " ++ limit ++ codes " " ++ rule ++ codes " " ++ case ++ codes " " ++ scope ++ codes " " ++ pattern ++ (10 ∷ [])) ++ rest
search_joined bytes r0 r1 r2 r3 r4 r5 r6 r7 name what limit rule case scope pattern rest e0 e1 e2 e3 e4 e5 e6 e7 e8 =
    rw (e0, e1, e2, e3, e4, e5, e6, e7, e8) (simp append_assoc)

-- a line whose parts were read
doc_made : (bytes r0 r1 r2 r3 r4 container path : List ℕ) (stamp len : ℕ) (text rest : List ℕ) (d : Document × List ℕ) → bytes ≡ codes "doc " ++ r0
    → (r0 ≡ container ++ 32 ∷ r1) × IsUtf8 container → (r1 ≡ path ++ 32 ∷ r2) × IsUtf8 path → (r2 ≡ decimal stamp ++ 32 ∷ r3) × (stamp ≤ 2 ^ 61)
    → (r3 ≡ decimal len ++ 10 ∷ r4) × (len ≤ 1048576) → (r4 ≡ text ++ 10 ∷ rest) × IsUtf8 text × (length text ≡ len)
    → cond (is_container container && is_source_path path) (Some (record { container = container; path = path; version = 0; stamp = stamp; text = text }, rest)) None ≡ Some d
    → (bytes ≡ doc_text d.0 ++ d.1) × IsScriptDoc d.0
doc_made bytes r0 r1 r2 r3 r4 container path stamp len text rest d e0 e1 e2 e3 e4 e5 end =
    let made : Document × List ℕ = (record { container = container; path = path; version = 0; stamp = stamp; text = text }, rest) in
    let g = cond_some (is_container container && is_source_path path) made d end in
    let names = and_parts (is_container container) (is_source_path path) g.0 in
    let e6 : r3 ≡ decimal (length text) ++ 10 ∷ r4 = e4.0 ∙ ap (λ (n : ℕ). decimal n ++ 10 ∷ r4) (sym e5.2) in
    let whole : bytes ≡ doc_text made.0 ++ made.1 = doc_joined bytes r0 r1 r2 r3 r4 container path (decimal stamp) (decimal (length text)) text rest e0 e1.0 e2.0 e3.0 e6 e5.0 in
    let formed : IsScriptDoc made.0 = record {
      container = (names.0, e1.1);
      path = (names.1, e2.1);
      version = refl;
      stamp = e3.1;
      text = (subst (λ (n : ℕ). n ≤ 1048576) (sym e5.2) e4.1, e5.1);
    } in
    subst (λ (x : Document × List ℕ). (bytes ≡ doc_text x.0 ++ x.1) × IsScriptDoc x.0) g.1 (whole, formed)

pub doc_takes : (bytes : List ℕ) (d : Document × List ℕ) → doc_at bytes ≡ Some d → (bytes ≡ doc_text d.0 ++ d.1) × IsScriptDoc d.0
unfolding doc_at
doc_takes bytes d e =
    taken (literal_at (codes "doc ") bytes) _ d e (λ r0 e0 f0.
    taken (text_field_at 32 r0) _ d f0 (λ container e1 f1.
    taken (text_field_at 32 container.1) _ d f1 (λ path e2 f2.
    taken (number_field_at 32 (2 ^ 61) path.1) _ d f2 (λ stamp e3 f3.
    taken (number_field_at 10 1048576 stamp.1) _ d f3 (λ len e4 f4.
    taken (text_at len.0 len.1) _ d f4 (λ text e5 f5.
    doc_made bytes r0 container.1 path.1 stamp.1 len.1 container.0 path.0 stamp.0 len.0 text.0 text.1 d
    (literal_takes (codes "doc ") bytes r0 e0) (text_field_takes 32 r0 container e1) (text_field_takes 32 container.1 path e2) (number_field_takes 32 (2 ^ 61) path.1 stamp e3)
    (number_field_takes 10 1048576 stamp.1 len e4) (text_takes len.0 len.1 text e5) f5))))))

-- a word and a scope before a space
word_takes : {A : Type 0} (read : List ℕ → Option A) (spelled : A → List ℕ) → ((word : List ℕ) (x : A) → read word ≡ Some x → word ≡ spelled x)
    → (bytes : List ℕ) (f : A × List ℕ) → word_at read bytes ≡ Some f → bytes ≡ spelled f.0 ++ 32 ∷ f.1
unfolding word_at
word_takes {A} read spelled told bytes f e =
    let a = bind_some (field_at 32 bytes) (λ field. read field.0 >>= λ word. Some (word, field.1)) f e in
    let b = bind_some (read a.0.0) (λ word. Some (word, a.0.1)) f a.2 in
    let whole : bytes ≡ spelled b.0 ++ 32 ∷ a.0.1 = field_takes 32 bytes a.0 a.1 ∙ ap (λ (l : List ℕ). l ++ 32 ∷ a.0.1) (told a.0.0 b.0 b.1) in
    subst (λ (g : A × List ℕ). bytes ≡ spelled g.0 ++ 32 ∷ g.1) (same_Some (b.0, a.0.1) f b.2) whole

what_field_takes : (bytes : List ℕ) (f : What × List ℕ) → word_at what_in bytes ≡ Some f → (bytes ≡ what_word f.0 ++ 32 ∷ f.1) × (is_built f.0 ≡ true)
unfolding word_at
what_field_takes bytes f e =
    let a = bind_some (field_at 32 bytes) (λ field. what_in field.0 >>= λ word. Some (word, field.1)) f e in
    let b = bind_some (what_in a.0.0) (λ word. Some (word, a.0.1)) f a.2 in
    let t = what_takes a.0.0 b.0 b.1 in
    let whole : bytes ≡ what_word b.0 ++ 32 ∷ a.0.1 = field_takes 32 bytes a.0 a.1 ∙ ap (λ (l : List ℕ). l ++ 32 ∷ a.0.1) t.0 in
    subst (λ (g : What × List ℕ). (bytes ≡ what_word g.0 ++ 32 ∷ g.1) × (is_built g.0 ≡ true)) (same_Some (b.0, a.0.1) f b.2) (whole, t.1)

scope_field_takes : (bytes : List ℕ) (f : Scope × List ℕ) → scope_at bytes ≡ Some f
    → (bytes ≡ scope_word f.0 ++ 32 ∷ f.1) × (names_containers f.0 ≡ true) × IsUtf8 (scope_word f.0)
unfolding scope_at
scope_field_takes bytes f e =
    let a = bind_some (text_field_at 32 bytes) (λ field. scope_in field.0 >>= λ scope. Some (scope, field.1)) f e in
    let b = bind_some (scope_in a.0.0) (λ scope. Some (scope, a.0.1)) f a.2 in
    let g = text_field_takes 32 bytes a.0 a.1 in
    let t = scope_takes a.0.0 b.0 b.1 in
    let whole : bytes ≡ scope_word b.0 ++ 32 ∷ a.0.1 = g.0 ∙ ap (λ (l : List ℕ). l ++ 32 ∷ a.0.1) t.0 in
    subst (λ (x : Scope × List ℕ). (bytes ≡ scope_word x.0 ++ 32 ∷ x.1) × (names_containers x.0 ≡ true) × IsUtf8 (scope_word x.0)) (same_Some (b.0, a.0.1) f b.2)
    (whole, t.1, subst IsUtf8 t.0 g.1)

search_made : (line : ℕ) (bytes r0 r1 r2 r3 r4 r5 r6 r7 name : List ℕ) (what : What) (limit : Limit) (rule : Rule) (case : Bool) (scope : Scope)
    (pattern rest : List ℕ) (s : Search × List ℕ) → bytes ≡ codes "@1 search " ++ r0 → (r0 ≡ name ++ 32 ∷ r1) × IsUtf8 name
    → r1 ≡ codes "wait " ++ r2 → (r2 ≡ what_word what ++ 32 ∷ r3) × (is_built what ≡ true) → r3 ≡ limit_word limit ++ 32 ∷ r4
    → r4 ≡ rule_word rule ++ 32 ∷ r5 → r5 ≡ case_word case ++ 32 ∷ r6
    → (r6 ≡ scope_word scope ++ 32 ∷ r7) × (names_containers scope ≡ true) × IsUtf8 (scope_word scope)
    → (r7 ≡ pattern ++ 10 ∷ rest) × IsUtf8 pattern
    → cond (is_name name && is_word pattern) (Some (record { line = line; name = name; what = what; limit = limit; rule = rule; case = case; scope = scope; pattern = pattern }, rest)) None ≡ Some s
    → (bytes ≡ search_text s.0 ++ s.1) × IsScriptSearch s.0 × (s.0.line ≡ line)
search_made line bytes r0 r1 r2 r3 r4 r5 r6 r7 name what limit rule case scope pattern rest s e0 e1 e2 e3 e4 e5 e6 e7 e8 end =
    let made : Search × List ℕ = (record { line = line; name = name; what = what; limit = limit; rule = rule; case = case; scope = scope; pattern = pattern }, rest) in
    let g = cond_some (is_name name && is_word pattern) made s end in
    let names = and_parts (is_name name) (is_word pattern) g.0 in
    let whole : bytes ≡ search_text made.0 ++ made.1 =
    search_joined bytes r0 r1 r2 r3 r4 r5 r6 r7 name (what_word what) (limit_word limit) (rule_word rule) (case_word case) (scope_word scope) pattern rest
    e0 e1.0 e2 e3.0 e4 e5 e6 e7.0 e8.0 in
    let formed : IsScriptSearch made.0 = record { name = (names.0, e1.1); what = e3.1; scope = (e7.1, e7.2); pattern = (names.1, e8.1) } in
    subst (λ (x : Search × List ℕ). (bytes ≡ search_text x.0 ++ x.1) × IsScriptSearch x.0 × (x.0.line ≡ line)) g.1 (whole, formed, refl)

pub search_takes : (line : ℕ) (bytes : List ℕ) (s : Search × List ℕ) → search_at line bytes ≡ Some s → (bytes ≡ search_text s.0 ++ s.1) × IsScriptSearch s.0 × (s.0.line ≡ line)
unfolding search_at
search_takes line bytes s e =
    taken (literal_at (codes "@1 search ") bytes) _ s e (λ r0 e0 f0.
    taken (text_field_at 32 r0) _ s f0 (λ name e1 f1.
    taken (literal_at (codes "wait ") name.1) _ s f1 (λ r2 e2 f2.
    taken (word_at what_in r2) _ s f2 (λ what e3 f3.
    taken (word_at limit_in what.1) _ s f3 (λ limit e4 f4.
    taken (word_at rule_in limit.1) _ s f4 (λ rule e5 f5.
    taken (word_at case_in rule.1) _ s f5 (λ case e6 f6.
    taken (scope_at case.1) _ s f6 (λ scope e7 f7.
    taken (text_field_at 10 scope.1) _ s f7 (λ pattern e8 f8.
    search_made line bytes r0 name.1 r2 what.1 limit.1 rule.1 case.1 scope.1 name.0 what.0 limit.0 rule.0 case.0 scope.0 pattern.0 pattern.1 s
    (literal_takes (codes "@1 search ") bytes r0 e0) (text_field_takes 32 r0 name e1) (literal_takes (codes "wait ") name.1 r2 e2)
    (what_field_takes r2 what e3) (word_takes limit_in limit_word limit_takes what.1 limit e4) (word_takes rule_in rule_word rule_takes limit.1 rule e5)
    (word_takes case_in case_word case_takes rule.1 case e6) (scope_field_takes case.1 scope e7) (text_field_takes 10 scope.1 pattern e8) f8)))))))))

-- ---- all lines

none_taken : (bytes : List ℕ) (d : List Document × List ℕ) → ◌≡◌ {A = Option (List Document × List ℕ)} (Some ([], bytes)) (Some d)
    → (bytes ≡ flat_map doc_text d.0 ++ d.1) × AllByRecursion IsScriptDoc d.0
none_taken bytes d e = subst (λ (x : List Document × List ℕ). (bytes ≡ flat_map doc_text x.0 ++ x.1) × AllByRecursion IsScriptDoc x.0) (same_Some ([], bytes) d e) (refl, tt)

doc_joins : (bytes : List ℕ) (doc : Document × List ℕ) (docs : List Document × List ℕ) (d : List Document × List ℕ) → (bytes ≡ doc_text doc.0 ++ doc.1) × IsScriptDoc doc.0
    → (doc.1 ≡ flat_map doc_text docs.0 ++ docs.1) × AllByRecursion IsScriptDoc docs.0 → Some (doc.0 ∷ docs.0, docs.1) ≡ Some d
    → (bytes ≡ flat_map doc_text d.0 ++ d.1) × AllByRecursion IsScriptDoc d.0
doc_joins bytes doc docs d one rest e =
    let made : List Document × List ℕ = (doc.0 ∷ docs.0, docs.1) in
    let whole : bytes ≡ flat_map doc_text made.0 ++ made.1 = one.0 ∙ ap (λ (r : List ℕ). doc_text doc.0 ++ r) rest.0 ∙ sym (append_assoc (doc_text doc.0) (flat_map doc_text docs.0) docs.1) in
    subst (λ (x : List Document × List ℕ). (bytes ≡ flat_map doc_text x.0 ++ x.1) × AllByRecursion IsScriptDoc x.0) (same_Some made d e) (whole, (one.1, rest.1))

pub docs_takes : (n : ℕ) (bytes : List ℕ) (d : List Document × List ℕ) → docs_at n bytes ≡ Some d → (bytes ≡ flat_map doc_text d.0 ++ d.1) × AllByRecursion IsScriptDoc d.0
unfolding docs_at
docs_takes zero bytes d e = none_taken bytes d e
docs_takes (suc n) bytes d e =
    elim (chosen (starts_with nat_eq bytes (codes "doc ")) (doc_at bytes >>= λ doc. docs_at n doc.1 >>= λ docs. Some (doc.0 ∷ docs.0, docs.1)) (Some ([], bytes)) (Some d) e) [
      | inl here ↦
          taken (doc_at bytes) _ d here.1 (λ doc e0 f0.
          taken (docs_at n doc.1) _ d f0 (λ docs e1 f1.
          doc_joins bytes doc docs d (doc_takes bytes doc e0) (docs_takes n doc.1 docs e1) f1))
      | inr there ↦ none_taken bytes d there.1
    ]

-- searches on these lines
abbrev pub AreFrom : ℕ → List Search → Type 0
AreFrom line [] = ⊤
AreFrom line (search ∷ searches) = (search.line ≡ line) × AreFrom (line + 1) searches

nothing_taken : (line : ℕ) (searches : List Search) → Some [] ≡ Some searches → ([] ≡ flat_map search_text searches) × AllByRecursion IsScriptSearch searches × AreFrom line searches
nothing_taken line searches e = subst (λ (x : List Search). ([] ≡ flat_map search_text x) × AllByRecursion IsScriptSearch x × AreFrom line x) (same_Some [] searches e) (refl, tt, tt)

search_joins : (line : ℕ) (bytes : List ℕ) (search : Search × List ℕ) (rest searches : List Search) → (bytes ≡ search_text search.0 ++ search.1) × IsScriptSearch search.0 × (search.0.line ≡ line)
    → (search.1 ≡ flat_map search_text rest) × AllByRecursion IsScriptSearch rest × AreFrom (line + 1) rest → Some (search.0 ∷ rest) ≡ Some searches
    → (bytes ≡ flat_map search_text searches) × AllByRecursion IsScriptSearch searches × AreFrom line searches
search_joins line bytes search rest searches one others e =
    let made : List Search = search.0 ∷ rest in
    let whole : bytes ≡ flat_map search_text made = one.0 ∙ ap (λ (r : List ℕ). search_text search.0 ++ r) others.0 in
    subst (λ (x : List Search). (bytes ≡ flat_map search_text x) × AllByRecursion IsScriptSearch x × AreFrom line x) (same_Some made searches e) (whole, (one.1, others.1), (one.2, others.2))

pub searches_takes : (n line : ℕ) (bytes : List ℕ) (searches : List Search) → searches_at n line bytes ≡ Some searches
    → (bytes ≡ flat_map search_text searches) × AllByRecursion IsScriptSearch searches × AreFrom line searches
unfolding searches_at
searches_takes zero line [] searches e = nothing_taken line searches e
searches_takes zero line (b ∷ bytes) searches e = absurd cc
searches_takes (suc n) line [] searches e = nothing_taken line searches e
searches_takes (suc n) line (b ∷ bytes) searches e =
    taken (search_at line (b ∷ bytes)) _ searches e (λ search e0 f0.
    taken (searches_at n (line + 1) search.1) _ searches f0 (λ rest e1 f1.
    search_joins line (b ∷ bytes) search rest searches (search_takes line (b ∷ bytes) search e0) (searches_takes n (line + 1) search.1 rest e1) f1))
