-- The outlines of types, one after another.
use Rattle.std.proofs.Common.{◌≡◌, ◌+◌, ℕ, zero, suc, List, [], ◌∷◌, ◌++◌, Option, Some, None, map, length, slice_get, reverse, refl, sym, ap, ◌∙◌, subst, append_assoc, arith}
use Rattle.std.proofs.Common.{Bor}
use Rattle.std.specs.Option.{option_copied}
use Rattle.std.proofs.lemmas.List.{append-nil}
use Rattle.java_tree.specs.declared.outline.OutlineType.{OutlineType}
use Rattle.java_tree.specs.declared.unit.Member.{Member}
use Rattle.java_tree.specs.declared.unit.TypeDecl.{TypeDecl}
use Rattle.java_model.specs.Grammar.Braces.{braces_of}
use Rattle.java_model.specs.Grammar.Pieces.{Hole, each}
use Rattle.java_model.specs.Grammar.Runs.{holes_of}
use Rattle.java_model.specs.Grammar.YieldUnit.{yield_member, yield_type_decl, scope_in, inside}
use Rattle.java_document.specs.Holes.{kept, locals_in, Keeps}
use Rattle.java_document.specs.Outlining.{outlined, in_order, type_at, types_from, AreHolesIn, OutlinesOne, OutlinesAll}
use Rattle.java_document.specs.declared.hole.FoundHole.{FoundHole}
use Rattle.java_document.specs.declared.scope.Scope.{Scope}
use Rattle.java_document.proofs.InMembers.{holes_type_decl}

pub holes_found : (f : FoundHole) (t : TypeDecl) (s m : Scope) (fs : List FoundHole) → locals_in s ≡ scope_in f.place f.brace f.locals
    → Keeps (each (map yield_member t.members)) s m [] fs → AreHolesIn f t fs
holes_found f t s m fs l k = record {
  are = λ n h e. k.finds.found (inside n h) (ap (λ g. scope_in g.place g.brace g.locals) (sym e) ∙ sym l) ∙ ap (map kept) (sym (holes_type_decl n h t));
}

-- the same where the parts are known to be equal
pub holes_found_in : (f : FoundHole) (t : TypeDecl) (s m : Scope) (ms : List Member) (b fs : List FoundHole) → ms ≡ t.members → b ≡ [] → s.own.items ≡ []
    → s.base.now ≡ scope_in f.place f.brace f.locals → Keeps (each (map yield_member ms)) s m b fs → AreHolesIn f t fs
holes_found_in f t s m ms b fs d e own base k =
    holes_found f t s m fs (ap (λ xs. reverse xs ++ s.base.now) own ∙ base)
    (subst (λ xs. Keeps (each (map yield_member t.members)) s m xs fs) e (subst (λ xs. Keeps (each (map yield_member xs)) s m b fs) d k))

-- ---- one type

pub one_none : (types : List TypeDecl) (f : FoundHole) (b : List OutlineType) → OutlinesOne types 0 f b b
unfolding types_from
one_none types f b = record { one = λ h e. sym (append-nil b) }

pub one_past : (types : List TypeDecl) (k : ℕ) (f : FoundHole) (b : List OutlineType) → slice_get types (length b) ≡ None → OutlinesOne types k f b b
unfolding types_from
one_past types zero f b e = record { one = λ h q. sym (append-nil b) }
one_past types (suc k) f b e = record { one = λ h q. sym (ap (λ o. b ++ type_at (types_from k types) types (length b) h o) e ∙ append-nil b) }

length-more : (b : List OutlineType) (o : OutlineType) → length (b ++ o ∷ []) ≡ suc (length b)
length-more [] o = refl
length-more (x ∷ b) o = ap suc (length-more b o)

pub one_type : (types : List TypeDecl) (k : ℕ) (f : FoundHole) (t : TypeDecl) (fs : List FoundHole) (b c : List OutlineType) → slice_get types (length b) ≡ Some t → AreHolesIn f t fs
    → OutlinesAll types k fs (b ++ outlined (braces_of types) f t ∷ []) c → OutlinesOne types (suc k) f b c
unfolding types_from
one_type types k f t fs b c e holes more = record {
  one = λ h q.
      more.all (holes_of (yield_type_decl (length b) h t)) (holes.are (length b) h q)
      ∙ ap (λ n. (b ++ outlined (braces_of types) f t ∷ []) ++ in_order (types_from k types) n (holes_of (yield_type_decl (length b) h t))) (length-more b (outlined (braces_of types) f t))
      ∙ append_assoc b (outlined (braces_of types) f t ∷ []) (in_order (types_from k types) (suc (length b)) (holes_of (yield_type_decl (length b) h t)))
      ∙ ap (λ g. b ++ outlined (braces_of types) g t ∷ in_order (types_from k types) (suc (length b)) (holes_of (yield_type_decl (length b) h t))) q
      ∙ sym (ap (λ o. b ++ type_at (types_from k types) types (length b) h o) e);
}

-- with the number that is left as the code has it
pub one_more_type : (types : List TypeDecl) (left k : ℕ) (f : FoundHole) (t : TypeDecl) (fs : List FoundHole) (b c : List OutlineType) → left ≡ suc k → slice_get types (length b) ≡ Some t
    → AreHolesIn f t fs → OutlinesAll types k fs (b ++ outlined (braces_of types) f t ∷ []) c → OutlinesOne types left f b c
one_more_type types left k f t fs b c l e holes more = subst (λ n. OutlinesOne types n f b c) (sym l) (one_type types k f t fs b c e holes more)

-- what a look-up gave
pub got_none : (types : List TypeDecl) (n at : ℕ) (r : Option (Bor TypeDecl)) → at ≡ n → option_copied r ≡ slice_get types at → r ≡ None → slice_get types n ≡ None
got_none types n at r e h q = ap (slice_get types) (sym e) ∙ sym h ∙ ap option_copied q

pub got_some : (types : List TypeDecl) (n at : ℕ) (r : Option (Bor TypeDecl)) (t : Bor TypeDecl) → at ≡ n → option_copied r ≡ slice_get types at → r ≡ Some t → slice_get types n ≡ Some t.now
got_some types n at r t e h q = ap (slice_get types) (sym e) ∙ sym h ∙ ap option_copied q

pub one_pushed : (before after : List OutlineType) (o p q : OutlineType) → after ≡ before ++ o ∷ [] → o ≡ p → p ≡ q → after ≡ before ++ q ∷ []
one_pushed before after o p q h e f = h ∙ ap (λ x. before ++ x ∷ []) (e ∙ f)

-- ---- all

none_kept : (hs : List Hole) → [] ≡ map kept hs → hs ≡ []
none_kept [] e = refl
none_kept (h ∷ hs) e = cc

pub all_none : (types : List TypeDecl) (k : ℕ) (b : List OutlineType) → OutlinesAll types k [] b b
all_none types k b = record { all = λ hs e. sym (ap (λ gs. b ++ in_order (types_from k types) (length b) gs) (none_kept hs e) ∙ append-nil b) }

same_head : (x y : FoundHole) (xs ys : List FoundHole) → (x ∷ xs) ≡ (y ∷ ys) → x ≡ y
same_head x y xs ys e = cc

same_tail : (x y : FoundHole) (xs ys : List FoundHole) → (x ∷ xs) ≡ (y ∷ ys) → xs ≡ ys
same_tail x y xs ys e = cc

some_is_not_none : (x : FoundHole) (xs : List FoundHole) → (x ∷ xs) ≡ [] → ⊥
some_is_not_none x xs e = cc

record Split (fs : List FoundHole) (f : FoundHole) (hs : List Hole) : Type 0 where
  before : List Hole
  last : Hole
  whole : hs ≡ before ++ last ∷ []
  those : fs ≡ map kept before
  that : f ≡ kept last

split : (fs : List FoundHole) (f : FoundHole) (hs : List Hole) → fs ++ f ∷ [] ≡ map kept hs → Split fs f hs
split [] f [] e = absurd (some_is_not_none f [] e)
split [] f (h ∷ []) e = record { before = []; last = h; whole = refl; those = refl; that = same_head f (kept h) [] [] e }
split [] f (h ∷ g ∷ hs) e = absurd (some_is_not_none (kept g) (map kept hs) (sym (same_tail f (kept h) [] (map kept (g ∷ hs)) e)))
split (x ∷ fs) f [] e = absurd (some_is_not_none x (fs ++ f ∷ []) e)
split (x ∷ fs) f (h ∷ hs) e =
    let r = split fs f hs (same_tail x (kept h) (fs ++ f ∷ []) (map kept hs) e) in
    record {
      before = h ∷ r.before;
      last = r.last;
      whole = ap (λ gs. h ∷ gs) r.whole;
      those = ap (λ y. y ∷ fs) (same_head x (kept h) (fs ++ f ∷ []) (map kept hs) e) ∙ ap (λ ys. kept h ∷ ys) r.those;
      that = r.that;
    }

pub length-both : (xs ys : List OutlineType) → length (xs ++ ys) ≡ length xs + length ys
length-both [] ys = omega arith
length-both (x ∷ xs) ys = let h = length-both xs ys in omega arith

order-more : (F : ℕ → Hole → List OutlineType) (n : ℕ) (gs : List Hole) (h : Hole) → in_order F n (gs ++ h ∷ []) ≡ in_order F n gs ++ F (n + length (in_order F n gs)) h
order-more F n [] h = let zero_more : n ≡ n + 0 = omega arith in append-nil (F n h) ∙ ap (λ k. F k h) zero_more
order-more F n (g ∷ gs) h =
    let r = order-more F (n + length (F n g)) gs h in
    let lengths = length-both (F n g) (in_order F (n + length (F n g)) gs) in
    let places : (n + length (F n g)) + length (in_order F (n + length (F n g)) gs) ≡ n + length (F n g ++ in_order F (n + length (F n g)) gs) = omega (arith, lengths) in
    ap (λ os. F n g ++ os) r
    ∙ ap (λ k. F n g ++ (in_order F (n + length (F n g)) gs ++ F k h)) places
    ∙ sym (append_assoc (F n g) (in_order F (n + length (F n g)) gs) (F (n + length (F n g ++ in_order F (n + length (F n g)) gs)) h))

pub all_more : (types : List TypeDecl) (k : ℕ) (fs : List FoundHole) (f : FoundHole) (b m c : List OutlineType) → OutlinesAll types k fs b m → OutlinesOne types k f m c → OutlinesAll types k (fs ++ f ∷ []) b c
all_more types k fs f b m c before one = record {
  all = λ hs e.
      let s = split fs f hs e in
      let these = before.all s.before s.those in
      let lengths = length-both b (in_order (types_from k types) (length b) s.before) in
      one.one s.last s.that
      ∙ ap (λ os. os ++ types_from k types (length os) s.last) these
      ∙ ap (λ n. (b ++ in_order (types_from k types) (length b) s.before) ++ types_from k types n s.last) lengths
      ∙ append_assoc b (in_order (types_from k types) (length b) s.before) (types_from k types (length b + length (in_order (types_from k types) (length b) s.before)) s.last)
      ∙ ap (λ os. b ++ os) (sym (order-more (types_from k types) (length b) s.before s.last))
      ∙ ap (λ gs. b ++ in_order (types_from k types) (length b) gs) (sym s.whole);
}
