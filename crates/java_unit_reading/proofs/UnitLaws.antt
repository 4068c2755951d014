-- The knot over the depth, and units: what is read stands in the tokens, and what stands there is read.
use Rattle.std.proofs.Common.{◌≡◌, ℕ, zero, suc, ◌<◌, ◌≤◌, Bool, true, false, cond, List, [], ◌∷◌, ◌++◌, length, map, Option, Some, None, IfSome, refl, sym, ap, ◌∙◌, subst, append_assoc, arith, slice_set}
use Rattle.std.specs.List.{AllByRecursion}
use Rattle.java_tree.specs.declared.mark.Mark.TheVariants as marks
use Rattle.java_tree.specs.declared.names.Ident.{Ident}
use Rattle.java_tree.specs.declared.unit.Member.{Member}
use Rattle.java_tree.specs.declared.unit.Member.TheVariants as members
use Rattle.java_tree.specs.declared.unit.TypeDecl.{TypeDecl}
use Rattle.java_tree.specs.declared.unit.TypeHead.{TypeHead}
use Rattle.java_tree.specs.declared.unit.TypePlace.{TypePlace}
use Rattle.java_tree.specs.declared.unit.TypePlace.TheVariants as places
use Rattle.java_model.specs.Grammar.Signs.{Sign, mark, left_brace, this, super, word, literal, stray}
use Rattle.java_model.specs.Grammar.Pieces.{Piece, token, hole, Hole, the, Around, less, deeper, each, yield_name, yield_type}
use Rattle.java_model.specs.Grammar.Forms.{IsNonEmpty}
use Rattle.java_model.specs.Grammar.Expressions.{nested}
use Rattle.java_model.specs.Grammar.Statements.{IsStmt}
use Rattle.java_model.specs.Grammar.Units.{IsMember, IsTypeDecl, Stage, stage, Spells, spells_nothing, spells_token, spells_type}
use Rattle.java_model.specs.Grammar.YieldStmt.{yield_variables}
use Rattle.java_model.specs.Grammar.YieldUnit.{yield_modifiers, yield_head, yield_result, yield_member, inside}
use Rattle.std.proofs.Common.{leb, eqb}
use Rattle.std.proofs.lemmas.Bool.{leb-true, eq-eqb, eqb-true}
use Rattle.std.proofs.lemmas.Bool.Decides.{leb_tells}
use Rattle.std.proofs.lemmas.List.{append-nil, length-set, length-append, append_cancel_right, set-append_left}
use Rattle.std.proofs.Math.Seq.{set-append_seam}
use Rattle.java_tree.specs.declared.stmt.Stmt.{Stmt}
use Rattle.java_tree.specs.declared.unit.Import.{Import}
use Rattle.java_tree.specs.declared.unit.TopLevel.{TopLevel}
use Rattle.java_tree.specs.declared.unit.TopLevel.TheVariants as tops
use Rattle.java_tree.specs.declared.unit.Unit.{Unit as CompilationUnit}
use Rattle.java_model.specs.Grammar.Statements.{Ifs, IsStmtOver}
use Rattle.java_model.specs.Grammar.YieldUnit.{yield_package, yield_star, yield_import, yield_top, outermost, yield_unit}
use Rattle.java_model.specs.Grammar.Units.{IsImport, IsUnitOf}
use Rattle.java_model.proofs.Grammar.YieldStmt.{yield_block-parts}
use Rattle.java_model.proofs.Grammar.Braces.{no_hole_head}
use Rattle.java_model.proofs.Grammar.Reads.{spells_split, spells_token_of, spells_type_of}
use Rattle.java_expr_reading.specs.Shapes.{same_mark}
use Rattle.java_unit_reading.specs.Reading.Steps.{State, state, Outcome, Done, Fail, and_then, ◌>>=◌, sees, brace, brace_in, list, unless}
use Rattle.java_unit_reading.specs.Reading.Words.{name, skip_modifiers}
use Rattle.java_unit_reading.specs.Reading.Nested.{Exprs, Parts}
use Rattle.java_unit_reading.specs.Reading.Members.{begins_type, any_member, member, unfinished, finish, members_of, type_body, type_decl}
use Rattle.java_unit_reading.specs.Reading.Units.{no_parts, more_parts, parts, package_name, any_package, star, import_of, any_import, is_end, top_type, top, any_top, unit, unit_of}
use Rattle.java_unit_reading.proofs.Sounding.{Stands, stands_nothing, stands_both, stands_as, IfDone, done, fails, then, either, weaken, sound_expect, Sound, Everywhere, Whatever}
use Rattle.java_unit_reading.proofs.Completing.{At, Gives, gives, Complete, Always, then_gives, first_gives, second_gives, at_end, headed, sees_same, sees_next, expect_gives, part_gives, last_gives, spells_as, spells_right}
use Rattle.java_unit_reading.proofs.Listing.{stays, ItemStands, sound_many, many_gives, some_piece}
use Rattle.java_unit_reading.proofs.WordLaws.{NotDotted, sound_name, sound_unless, unless_gives, unless_stops, name_gives, all_whatever}
use Rattle.java_unit_reading.proofs.Expressions.Holding.{ExprsHold, InPlace, TypeIs, PartsHold}
use Rattle.java_unit_reading.proofs.StatementLaws.Sound.{spread_each, sound_stmt}
use Rattle.java_unit_reading.proofs.StatementLaws.Whole.{stmt_gives, stmt_opens, stmt_alone}
use Rattle.java_unit_reading.proofs.MemberLaws.Sound.{sound_type_decl, anywhere, same_types}
use Rattle.java_unit_reading.proofs.MemberLaws.Complete.{BraceNext, head_gives, type_begins}
use Rattle.java_unit_reading.proofs.MemberLaws.Whole.{member_gives}

-- stages of a unit only go on
pub rises : {ps : List Piece} {p q : Stage} → Spells ps p q → p.number ≤ q.number
rises (spells_nothing p) = omega arith
rises (spells_token x ps ts p q e g) = rises g
rises (spells_type k ps c more p m q e shape g r) = let a = rises g in let b = rises r in omega arith

brace_in_is : (types : List TypeDecl) (ts us : List Sign) (at : ℕ) → ts ≡ left_brace at ∷ us → brace_in types ts ≡ Done at (state types us)
brace_in_is types ts us at e = rw e

decl_of : TypePlace → Option ℕ → TypeHead → ℕ → List Member → TypeDecl
decl_of place w h at ms = record { parent = w; place = place; head = h; brace = at; members = ms }

module _ (E : Exprs) (P : Parts) (d : ℕ) (fits : d ≤ 256) (holds : ExprsHold E) (parts_hold : PartsHold E P d) where
  EndsMembers : List Sign → Type 0
  EndsMembers ts = sees marks.RightBrace ts ≡ true

  members_stop : (h : TypeHead) (w : Option ℕ) (s : State) → EndsMembers s.tokens → any_member E P d w h s ≡ Done None s
  unfolding any_member EndsMembers
  members_stop h w s e = unless_stops (sees marks.RightBrace) (member E P d w h) s e

  member_some : (h : TypeHead) (x : Member) (a : Around) → IsMember (nested d) (IsStmt d) h x → IsNonEmpty (yield_member x a)
  member_some h members.Empty a k = tt
  member_some h (members.Initializer true x) a k = tt
  member_some h (members.Initializer false x) a k = rw yield_block-parts tt
  member_some h (members.Type b) a k = tt
  member_some h (members.Method m) a k = some_piece (yield_modifiers m.modifiers ++ yield_result m.result) _ _
  member_some h (members.Constructor c) a k = some_piece (yield_modifiers c.modifiers) _ _
  member_some h (members.Field f) a k = some_piece (yield_modifiers f.modifiers ++ yield_type f.of ++ yield_variables f.variables a) _ []

  members_give : (h : TypeHead) (ms : List Member) (number : ℕ) (a : Around) (total : List TypeDecl) (s : State) (p q : Stage)
      → AllByRecursion (IsMember (nested d) (IsStmt d) h) ms → InPlace d (Some number) a → At total s p
      → Spells (each (map yield_member ms) a ++ the marks.RightBrace ∷ []) p q → Gives total ms q (members_of E P d h number s)
  unfolding members_of EndsMembers
  members_give h ms number a total s p q k i at g =
      spells_split (each (map yield_member ms) a) (the marks.RightBrace ∷ []) p q g (λ m l r.
      then_gives (list (any_member E P d (Some number) h) s) _
      (many_gives (InPlace d (Some number)) (IsMember (nested d) (IsStmt d) h) (λ x b. yield_member x b) stays (any_member E P d (Some number) h) EndsMembers Always
      (λ x b _ j. j) (λ x b k2 j. member_gives E P d (Some number) fits holds parts_hold h x b k2 j) (members_stop h (Some number)) (λ x u v e. tt) (λ ts e. tt) (λ x b k2. member_some h x b k2)
      ms a (suc (length s.tokens)) [] total s p m k i (omega arith) at (spells_as (sym (spread_each yield_member ms a)) l) (headed EndsMembers (mark marks.RightBrace) [] m q (sees_same marks.RightBrace) r))
      (λ t at2. expect_gives marks.RightBrace [] _ at2 r (λ u m2 at3 last. gives u (at_end at3 last))))

  -- a type that was put into its place
  placed : (total : List TypeDecl) (c : TypeDecl) (types s_types s2_types : List TypeDecl) (t : State) (m : Stage)
      → s2_types ≡ s_types → s_types ++ c ∷ types ≡ total → At ((s2_types ++ unfinished ∷ []) ++ types) t m
      → suc (length s_types) ≤ m.number
      → At total (state (slice_set t.types (length s2_types) c) t.tokens) m
  placed total c types s_types s2_types t m same whole at few =
      let n = length s2_types in
      let len : length s2_types ≡ length s_types = ap length same in
      let below : length s2_types < length t.types = omega (arith, at.number) in
      record {
        tokens = at.tokens;
        number = length-set t.types (length s2_types) c ∙ at.number;
        whole = sym (set-append_left t.types m.types (length s2_types) c below)
            ∙ ap (λ xs. slice_set xs (length s2_types) c) (at.whole ∙ append_assoc s2_types (unfinished ∷ []) types)
            ∙ set-append_seam s2_types unfinished types c ∙ ap (λ xs. xs ++ c ∷ types) same ∙ whole;
      }

  decl_is : (h : Hole) (c : TypeDecl) → IsTypeDecl h c → decl_of h.place h.around.within c.head c.brace c.members ≡ c
  unfolding decl_of
  decl_is h c k = ap (λ v. decl_of v h.around.within c.head c.brace c.members) (sym k.place) ∙ ap (λ v. decl_of c.place v c.head c.brace c.members) (sym k.parent)

  abbrev done_at : ℕ → State → Outcome ℕ
  done_at n s = Done n s

  body_gives : (h : Hole) (c : TypeDecl) (types : List TypeDecl) (total : List TypeDecl) (s s2 : State) (n : ℕ) (ts : List Sign) (m : Stage)
      → h.around.left ≡ suc d → IsTypeDecl h c → s2.types ≡ s.types → s2.tokens ≡ ts → length s.types ≡ n
      → s.types ++ c ∷ types ≡ total → Spells (each (map yield_member c.members) (inside n h) ++ the marks.RightBrace ∷ []) (stage (suc n) types ts) m
      → Gives total h.brace m (type_body E P d h.place h.around.within c.head c.brace s2)
  unfolding type_body decl_of
  body_gives h c types total s s2 n ts m left k same toks len whole g =
      let here : length s2.types ≡ n = ap length same ∙ len in
      let start : At ((s2.types ++ unfinished ∷ []) ++ types) (state (s2.types ++ unfinished ∷ []) s2.tokens) (stage (suc n) types ts) = record { tokens = toks; number = omega (arith, length-append s2.types (unfinished ∷ []), here); whole = refl } in
      let i : InPlace d (Some (length s2.types)) (inside n h) = record { left = ap less left; within = ap (λ v. Some v) (sym here) } in
      let depth : k.left ≡ d = omega (arith, k.counted, left) in
      let ms = members_give c.head c.members (length s2.types) (inside n h) ((s2.types ++ unfinished ∷ []) ++ types) (state (s2.types ++ unfinished ∷ []) s2.tokens) (stage (suc n) types ts) m
      (subst (λ v. AllByRecursion (IsMember (nested v) (IsStmt v) c.head) c.members) depth k.members) i start g in
      let up = rises g in
      let few : suc (length s.types) ≤ m.number = omega arith in
      let end_at = placed total c types s.types s2.types ms.end m same whole ms.at few in
      record {
        end = state (slice_set ms.end.types (length s2.types) c) ms.end.tokens;
        at = end_at;
        is = ap (λ o. and_then o (λ v. finish (length s2.types) (decl_of h.place h.around.within c.head c.brace v))) ms.is
            ∙ ap (λ v. finish (length s2.types) v ms.end) (decl_is h c k) ∙ ap (λ v. done_at v (state (slice_set ms.end.types (length s2.types) c) ms.end.tokens)) k.brace;
      }

  pub type_decl_gives : (h : Hole) → h.around.left ≡ suc d → Complete (type_decl E P d h.place h.around.within) (hole h ∷ []) h.brace Always
  unfolding type_decl brace
  type_decl_gives h left total s from to at g follow =
      spells_type_of h [] from to g (λ c types m et k inner rest.
      spells_split (yield_head c.head) (token (left_brace c.brace) ∷ (each (map yield_member c.members) (inside from.number h) ++ the marks.RightBrace ∷ [])) _ m inner (λ m1 hd r.
      spells_token_of (left_brace c.brace) (each (map yield_member c.members) (inside from.number h) ++ the marks.RightBrace ∷ []) m1 m r (λ us e r2.
      let same = same_types (no_hole_head c.head) hd in
      let hd2 = anywhere (no_hole_head c.head) hd from.number types in
      let start : At (s.types ++ types) s (stage from.number types from.tokens) = record { tokens = at.tokens; number = at.number; whole = refl } in
      let brace_next : BraceNext m1.tokens = subst BraceNext (sym e) refl in
      let one = head_gives h.place c.head k.head (s.types ++ types) s (stage from.number types from.tokens) (stage from.number types m1.tokens) start hd2 brace_next in
      let kept : one.end.types ≡ s.types = append_cancel_right one.end.types s.types types one.at.whole in
      let r3 = subst (λ n. Spells (each (map yield_member c.members) (inside from.number h) ++ the marks.RightBrace ∷ []) (stage n types us) m) (sym same.0)
      (subst (λ ts. Spells (each (map yield_member c.members) (inside from.number h) ++ the marks.RightBrace ∷ []) (stage m1.number ts us) m) (sym same.1) r2) in
      let body = body_gives h c types total s (state one.end.types us) from.number us m left k kept refl at.number (ap (λ ts. s.types ++ ts) (sym et) ∙ at.whole) r3 in
      record {
        end = body.end;
        at = at_end body.at rest;
        is = ap (λ o. and_then o (λ v. brace >>= type_body E P d h.place h.around.within v)) one.is
            ∙ ap (λ o. and_then o (type_body E P d h.place h.around.within c.head)) (brace_in_is one.end.types one.end.tokens us c.brace (one.at.tokens ∙ e))
            ∙ body.is;
      })))

-- ---- the knot

in_deeper : (d : ℕ) (w : Option ℕ) (a : Around) → InPlace (suc d) w a → InPlace d w (deeper a)
in_deeper d w a i = record { left = ap less i.left; within = i.within }

stmt_up : (d : ℕ) (ifs : Ifs) (x : Stmt) → IsStmtOver (nested d) (IsStmt d) ifs x → IsStmt (suc d) ifs x
unfolding IsStmt
stmt_up d ifs x h = h

stmt_down : (d : ℕ) (ifs : Ifs) (x : Stmt) → IsStmt (suc d) ifs x → IsStmtOver (nested d) (IsStmt d) ifs x
unfolding IsStmt
stmt_down d ifs x h = h

no_stmt : (ifs : Ifs) (x : Stmt) → IsStmt zero ifs x → ⊥
unfolding IsStmt
no_stmt ifs x h = h

no_type : (h : Hole) (qs : List Piece) (p q : Stage) → h.around.left ≤ zero → Spells (hole h ∷ qs) p q → ⊥
no_type h qs p q e g = spells_type_of h qs p q g (λ c types m et k inner rest. let f = k.counted in absurd (omega arith))

no_done : {A : Type 0} (x : A) (t : State) → Fail ≡ Done x t → ⊥
no_done x t e = cc

is_top : (n d : ℕ) → n ≤ suc d → leb n d ≡ false → n ≡ suc d
is_top n d b f = grind (arith, leb_tells n d)

more_hold : (E : Exprs) (d : ℕ) (P : Parts) → d ≤ 256 → ExprsHold E → PartsHold E P d → PartsHold E (more_parts E d P) (suc d)
more_hold E d P fits holds h = record {
  stmt_sound = λ w s. weaken (sound_stmt E P d w fits holds h s) (λ x t k. (λ ifs ok. stmt_up d ifs x (k.0 ifs ok), λ a i. k.1 (deeper a) (in_deeper d w a i)));
  stmt_complete = λ w a ifs x i k. stmt_gives E P d w fits holds h x ifs (deeper a) (stmt_down d ifs x k) (in_deeper d w a i);
  stmt_opens = λ w s t x e. stmt_opens E P d w fits holds h s t x e;
  stmt_alone = λ w s t x e low p us f g b. stmt_alone E P d w fits holds h s t x e low p us f g b;
  type_sound = λ left place w s. either (leb left d) (λ e. h.type_sound left place w s)
      (λ e. either (eqb left (suc d)) (λ f. subst (λ n. IfDone (TypeIs n place w s) (type_decl E P d place w s)) (sym (eqb-true left (suc d) f)) (sound_type_decl E P d fits holds h place w s)) (λ f. fails));
  type_complete = λ k below total s from to at g follow. by_left k below total s from to at g (leb k.around.left d) refl;
}
  where
    by_left : (k : Hole) → k.around.left ≤ suc d → (total : List TypeDecl) (s : State) (from to : Stage)
        → At total s from → Spells (hole k ∷ []) from to → (b : Bool) → leb k.around.left d ≡ b
        → Gives total k.brace to (cond b (P.type k.around.left k.place k.around.within s) (cond (eqb k.around.left (suc d)) (type_decl E P d k.place k.around.within s) Fail))
    by_left k below total s from to at g true e = h.type_complete k (leb-true k.around.left d e) total s from to at g tt
    by_left k below total s from to at g false e =
        let top : k.around.left ≡ suc d = is_top k.around.left d below e in
        first_gives (eqb k.around.left (suc d)) _ _ (eq-eqb k.around.left (suc d) top) (type_decl_gives E P d fits holds h k top total s from to at g tt)

no_hold : (E : Exprs) → PartsHold E no_parts zero
no_hold E = record {
  stmt_sound = λ w s. fails;
  stmt_complete = λ w a ifs x i k. absurd (no_stmt ifs x k);
  stmt_opens = λ w s t x e. absurd (no_done x t e);
  stmt_alone = λ w s t x e low p us f g b. no_done x t f;
  type_sound = λ left place w s. fails;
  type_complete = λ k below total s from to at g follow. absurd (no_type k [] from to below g);
}

pub all_hold : (E : Exprs) → ExprsHold E → (d : ℕ) → d ≤ 256 → PartsHold E (parts E d) d
unfolding parts
all_hold E holds zero fits = no_hold E
all_hold E holds (suc d) fits = let low : d ≤ 256 = omega arith in more_hold E d (parts E d) low holds (all_hold E holds d low)

-- ---- units

sound_package : Sound Everywhere (λ o. IfSome o IsNonEmpty) (λ o a. yield_package o) any_package
unfolding any_package package_name
sound_package s =
    either (sees marks.Package s.tokens)
    (λ e. then (then (sound_expect marks.Package s) (λ _ t h. then (sound_name t) (λ n u g. then (sound_expect marks.Semicolon u) (λ _ v k. package_done n s v (g.0, stands_both h (stands_both (g.1 outermost tt) k)))))) (λ n t h. done (h.0, λ a _. h.1)))
    (λ e. done (tt, λ a _. stands_nothing s))
  where
    package_done : (n : List Ident) (s2 t : State)
        → IsNonEmpty n × Stands (the marks.Package ∷ (yield_name n ++ the marks.Semicolon ∷ [])) s2 t
        → IfDone (λ m u. IsNonEmpty m × Stands (the marks.Package ∷ (yield_name m ++ the marks.Semicolon ∷ [])) s2 u) (Done n t)
    package_done n s2 t h = done h

sound_star : Sound Everywhere Whatever (λ b a. yield_star b) star
unfolding star
sound_star s =
    either (sees marks.Dot s.tokens) (λ e. then (sound_expect marks.Dot s) (λ _ t h. then (sound_expect marks.Star t) (λ _ u g. done (tt, λ a _. stands_both h g))))
    (λ e. done (tt, λ a _. stands_nothing s))

sound_import : Sound Everywhere IsImport (λ i a. yield_import i a) import_of
unfolding import_of
sound_import s =
    then (sound_expect marks.Import s) (λ _ t h. then (sound_name t) (λ n u g. then (sound_star u) (λ b v k. then (sound_expect marks.Semicolon v) (λ _ x r.
    done (g.0, λ a _. stands_both h (stands_both (stands_both (g.1 a tt) (k.1 a tt)) r))))))

sound_any_import : (s : State) → IfDone (ItemStands Everywhere IsImport (λ i a. yield_import i a) s) (any_import s)
unfolding any_import
sound_any_import s = either (sees marks.Import s.tokens) (λ e. then (sound_import s) (λ i t h. done h)) (λ e. done (stands_nothing s))

sound_imports : Sound Everywhere (AllByRecursion IsImport) (λ is a. each (map yield_import is) a) (list any_import)
sound_imports s =
    weaken (sound_many Everywhere IsImport (λ i a. yield_import i a) stays any_import (λ x a _ i. i) sound_any_import _ [] s)
    (λ xs t g. (subst (AllByRecursion IsImport) (sym g.is) g.shapes, λ a i. stands_as (spread_each yield_import g.more a ∙ ap (λ ys. each (map yield_import ys) a) (sym g.is)) (g.stands a i)))

-- where the declarations of a unit stand
abbrev Outside : Around → Type 0
Outside a = a ≡ outermost

-- ---- units, complete

semicolon_not_dotted : (ts : List Sign) → NotDotted (mark marks.Semicolon ∷ ts) × (sees marks.Dot (mark marks.Semicolon ∷ ts) ≡ false)
unfolding sees same_mark
semicolon_not_dotted ts = (refl, refl)

star_not_dotted : (ts : List Sign) → NotDotted (mark marks.Dot ∷ mark marks.Star ∷ ts)
unfolding sees same_mark
star_not_dotted ts = refl

package_gives : (n : List Ident) → IsNonEmpty n → Complete package_name (the marks.Package ∷ (yield_name n ++ the marks.Semicolon ∷ [])) n Always
unfolding package_name
package_gives n h total s from to at g follow =
    expect_gives marks.Package _ _ at g (λ t1 m1 at1 r1.
    part_gives name (yield_name n) (the marks.Semicolon ∷ []) NotDotted _ (name_gives n h) at1 r1 (λ m l. headed NotDotted (mark marks.Semicolon) [] m to (λ ts. (semicolon_not_dotted ts).0) l) (λ t2 m2 at2 r2.
    expect_gives marks.Semicolon [] _ at2 r2 (λ t3 m3 at3 last. gives t3 (at_end at3 last))))

any_package_gives : (o : Option (List Ident)) → IfSome o IsNonEmpty → Complete any_package (yield_package o) o (λ ts. sees marks.Package ts ≡ false)
unfolding any_package
any_package_gives None h total s from to at g follow = second_gives (sees marks.Package s.tokens) _ _ (ap (sees marks.Package) (at_end at g).tokens ∙ follow) (gives s (at_end at g))
any_package_gives (Some n) h total s from to at g follow =
    first_gives (sees marks.Package s.tokens) _ _ (sees_next marks.Package _ at g)
    (last_gives package_name (the marks.Package ∷ (yield_name n ++ the marks.Semicolon ∷ [])) Always _ (package_gives n h) at g tt (λ t at2. gives t at2))

star_gives : (b : Bool) → Complete star (yield_star b) b (λ ts. sees marks.Dot ts ≡ false)
unfolding star
star_gives false total s from to at g follow = second_gives (sees marks.Dot s.tokens) _ _ (ap (sees marks.Dot) (at_end at g).tokens ∙ follow) (gives s (at_end at g))
star_gives true total s from to at g follow =
    first_gives (sees marks.Dot s.tokens) _ _ (sees_next marks.Dot _ at g)
    (expect_gives marks.Dot _ _ at g (λ t1 m1 at1 r1. expect_gives marks.Star [] _ at1 r1 (λ t2 m2 at2 last. gives t2 (at_end at2 last))))

behind_import : (b : Bool) (p q : Stage) → Spells (yield_star b ++ the marks.Semicolon ∷ []) p q → NotDotted p.tokens
behind_import false p q g = headed NotDotted (mark marks.Semicolon) [] p q (λ ts. (semicolon_not_dotted ts).0) g
behind_import true p q g =
    spells_token_of (mark marks.Dot) _ p q g (λ ts e r. spells_token_of (mark marks.Star) _ _ q r (λ us e2 r2. subst NotDotted (sym (e ∙ ap (λ xs. mark marks.Dot ∷ xs) e2)) (star_not_dotted us)))

import_gives : (x : Import) (a : Around) → IsImport x → Complete any_import (yield_import x a) (Some x) Always
unfolding any_import import_of
import_gives x a h total s from to at g follow =
    first_gives (sees marks.Import s.tokens) _ _ (sees_next marks.Import _ at g)
    (then_gives (import_of s) _ (expect_gives marks.Import _ _ at g (λ t1 m1 at1 r1.
    part_gives name (yield_name x.name) _ NotDotted _ (name_gives x.name h) at1 (spells_right (yield_name x.name) (yield_star x.star) (the marks.Semicolon ∷ []) r1) (λ m l. behind_import x.star m to l) (λ t2 m2 at2 r2.
    part_gives star (yield_star x.star) (the marks.Semicolon ∷ []) (λ ts. sees marks.Dot ts ≡ false) _ (star_gives x.star) at2 r2 (λ m l. headed (λ ts. sees marks.Dot ts ≡ false) (mark marks.Semicolon) [] m to (λ ts. (semicolon_not_dotted ts).1) l) (λ t3 m3 at3 r3.
    expect_gives marks.Semicolon [] _ at3 r3 (λ t4 m4 at4 last. gives t4 (at_end at4 last)))))) (λ t at2. gives t at2))

NoImport : List Sign → Type 0
NoImport ts = sees marks.Import ts ≡ false

imports_stop : (s : State) → NoImport s.tokens → any_import s ≡ Done None s
unfolding any_import NoImport
imports_stop s h = rw h

imports_give : (xs : List Import) → AllByRecursion IsImport xs → Complete (list any_import) (each (map yield_import xs) outermost) xs NoImport
imports_give xs h total s from to at g follow =
    many_gives Everywhere IsImport (λ x b. yield_import x b) stays any_import NoImport Always
    (λ x b _ j. j) (λ x b k j. import_gives x b k) imports_stop (λ x u v e. tt) (λ ts e. tt) (λ x b k. tt)
    xs outermost (suc (length s.tokens)) [] total s from to h tt (omega arith) at (spells_as (sym (spread_each yield_import xs outermost)) g) follow

-- what declarations of a unit begin with
abbrev OpensTop : List Sign → Type 0
OpensTop ts = (sees marks.Package ts ≡ false) × (sees marks.Import ts ≡ false) × (is_end ts ≡ false)

type_opens_top : (ts : List Sign) → begins_type ts ≡ true → OpensTop ts × (sees marks.Semicolon ts ≡ false)
unfolding sees same_mark skip_modifiers
type_opens_top [] h = absurd cc
type_opens_top (mark marks.Package ∷ ts) h = absurd cc
type_opens_top (mark marks.Import ∷ ts) h = absurd cc
type_opens_top (mark marks.Semicolon ∷ ts) h = absurd cc
type_opens_top (mark m ∷ ts) h = ((refl, refl, refl), refl)
type_opens_top (left_brace b ∷ ts) h = absurd cc
type_opens_top (this s ∷ ts) h = absurd cc
type_opens_top (super s ∷ ts) h = absurd cc
type_opens_top (word i ∷ ts) h = absurd cc
type_opens_top (literal l ∷ ts) h = absurd cc
type_opens_top (stray ∷ ts) h = absurd cc

semicolon_opens_top : (ts : List Sign) → OpensTop (mark marks.Semicolon ∷ ts)
unfolding sees same_mark
semicolon_opens_top ts = (refl, refl, refl)

nothing_opens : (sees marks.Package [] ≡ false) × (sees marks.Import [] ≡ false)
unfolding sees
nothing_opens = (refl, refl)

import_no_package : (ts : List Sign) → sees marks.Package (mark marks.Import ∷ ts) ≡ false
unfolding sees same_mark
import_no_package ts = refl

top_not : places.TopLevel ≡ places.Anonymous → ⊥
top_not e = cc

top_hole : ℕ → Hole
top_hole b = record { brace = b; place = places.TopLevel; created = []; around = outermost }

top_opens : (x : TopLevel) (qs : List Piece) (p q : Stage) → Spells (yield_top x outermost ++ qs) p q → OpensTop p.tokens
unfolding top_hole
top_opens tops.Empty qs p q g = headed OpensTop (mark marks.Semicolon) qs p q semicolon_opens_top g
top_opens (tops.Type b) qs p q g = (type_opens_top p.tokens (type_begins (top_hole b) qs p q top_not g).1).0

-- neither a package nor an import comes next
tops_open : (xs : List TopLevel) (p q : Stage) → Spells (each (map yield_top xs) outermost) p q
    → q.tokens ≡ [] → (sees marks.Package p.tokens ≡ false) × (sees marks.Import p.tokens ≡ false)
tops_open [] p q (spells_nothing _) h = subst (λ ts. (sees marks.Package ts ≡ false) × (sees marks.Import ts ≡ false)) (sym h) nothing_opens
tops_open (x ∷ xs) p q g h = let o = top_opens x _ p q g in (o.0, o.1)

imports_no_package : (is : List Import) (xs : List TopLevel) (p q : Stage)
    → Spells (each (map yield_import is) outermost ++ each (map yield_top xs) outermost) p q → q.tokens ≡ []
    → sees marks.Package p.tokens ≡ false
imports_no_package [] xs p q g h = (tops_open xs p q g h).0
imports_no_package (i ∷ is) xs p q g h = headed (λ ts. sees marks.Package ts ≡ false) (mark marks.Import) _ p q import_no_package g

abbrev done_unit : CompilationUnit → List TypeDecl → State → Outcome CompilationUnit
done_unit u ts t = Done (record { «package» = u.package; imports = u.imports; declarations = u.declarations; types = ts }) t

module _ (E : Exprs) (holds : ExprsHold E) where
  sound_top : Sound Outside Whatever (λ x a. yield_top x a) (top E)
  unfolding top top_type
  sound_top s =
      either (sees marks.Semicolon s.tokens) (λ e. then (sound_expect marks.Semicolon s) (λ _ t h. done (tt, λ a _. h)))
      (λ e. then (let h = all_hold E holds 256 (omega arith) in h.type_sound 256 places.TopLevel None s) (λ at t h. done (tt, λ a i. h _ refl refl (ap (λ b. b.left) i) (ap (λ b. b.within) i))))

  sound_tops : Sound Outside (AllByRecursion Whatever) (λ xs a. each (map yield_top xs) a) (list (any_top E))
  unfolding any_top
  sound_tops s =
      weaken (sound_many Outside Whatever (λ x a. yield_top x a) stays (unless is_end (top E)) (λ x a _ i. i) (sound_unless Outside Whatever (λ x a. yield_top x a) is_end (top E) sound_top) _ [] s)
      (λ xs t g. (subst (AllByRecursion Whatever) (sym g.is) g.shapes, λ a i. stands_as (spread_each yield_top g.more a ∙ ap (λ ys. each (map yield_top ys) a) (sym g.is)) (g.stands a i)))

  nothing_left : (ts : List Sign) → is_end ts ≡ true → ts ≡ []
  nothing_left [] h = refl
  nothing_left (t ∷ ts) h = absurd cc

  unit_stands : (tokens : List Sign) (u : CompilationUnit) (t : State) → IfSome u.package IsNonEmpty
      → AllByRecursion IsImport u.imports → u.types ≡ t.types → t.tokens ≡ []
      → Stands (yield_unit u) (state [] tokens) t → IsUnitOf tokens u
  unit_stands tokens u t h k e f g = record {
    in_package = h;
    imports = k;
    spells = subst (λ ts. Spells (yield_unit u) (stage 0 ts tokens) (stage (length u.types) [] [])) (append-nil g.more ∙ sym g.grows ∙ sym e)
        (subst (λ ts. Spells (yield_unit u) (stage 0 (g.more ++ []) tokens) (stage (length ts) [] [])) (sym e)
        (subst (λ ts. Spells (yield_unit u) (stage 0 (g.more ++ []) tokens) (stage (length t.types) [] ts)) f (g.spells [])));
  }

  -- the unit that is read is the unit of its tokens
  pub sound_unit : (tokens : List Sign) → IfDone (λ u t. IsUnitOf tokens u) (unit_of E tokens)
  unfolding unit
  sound_unit tokens =
      then (sound_package (state [] tokens)) (λ p t1 h1. then (sound_imports t1) (λ is t2 h2. then (sound_tops t2) (λ ds t3 h3.
      either (is_end t3.tokens) (λ e. done (unit_stands tokens _ t3 h1.0 h2.0 refl (nothing_left t3.tokens e) (stands_both (stands_both (h1.1 outermost tt) (h2.1 outermost tt)) (h3.1 outermost refl)))) (λ e. fails))))

  IsEnd : List Sign → Type 0
  IsEnd ts = is_end ts ≡ true

  top_gives : (x : TopLevel) (a : Around) → Outside a → Complete (any_top E) (yield_top x a) (Some x) Always
  unfolding any_top top top_type top_hole
  top_gives tops.Empty a i total s from to at g follow =
      let o = headed OpensTop (mark marks.Semicolon) [] from to semicolon_opens_top g in
      unless_gives is_end (top E) tops.Empty s (ap is_end at.tokens ∙ o.2)
      (first_gives (sees marks.Semicolon s.tokens) _ _ (sees_next marks.Semicolon [] at g) (expect_gives marks.Semicolon [] _ at g (λ t m at2 last. gives t (at_end at2 last))))
  top_gives (tops.Type b) a i total s from to at g follow =
      let g2 : Spells (hole (top_hole b) ∷ []) from to = spells_as (ap (λ v. yield_top (tops.Type b) v) i) g in
      let o = type_opens_top from.tokens (type_begins (top_hole b) [] from to top_not g2).1 in
      let top_one = o.0 in
      let h = all_hold E holds 256 (omega arith) in
      unless_gives is_end (top E) (tops.Type b) s (ap is_end at.tokens ∙ top_one.2)
      (second_gives (sees marks.Semicolon s.tokens) _ _ (ap (sees marks.Semicolon) at.tokens ∙ o.1)
      (then_gives ((parts E 256).type 256 places.TopLevel None s) _ (h.type_complete (top_hole b) (omega arith) total s from to at g2 tt) (λ t at2. gives t at2)))

  tops_stop : (s : State) → IsEnd s.tokens → any_top E s ≡ Done None s
  unfolding any_top IsEnd
  tops_stop s h = unless_stops is_end (top E) s h

  top_some : (x : TopLevel) (a : Around) → IsNonEmpty (yield_top x a)
  top_some tops.Empty a = tt
  top_some (tops.Type b) a = tt

  tops_give : (xs : List TopLevel) → Complete (list (any_top E)) (each (map yield_top xs) outermost) xs IsEnd
  tops_give xs total s from to at g follow =
      many_gives Outside Whatever (λ x b. yield_top x b) stays (any_top E) IsEnd Always
      (λ x b _ j. j) (λ x b k j. top_gives x b j) tops_stop (λ x u v e. tt) (λ ts e. tt) (λ x b k. top_some x b)
      xs outermost (suc (length s.tokens)) [] total s from to (all_whatever xs) refl (omega arith) at (spells_as (sym (spread_each yield_top xs outermost)) g) follow

  pub record UnitGiven (u : CompilationUnit) (o : Outcome CompilationUnit) : Type 0 where
    pub end : State
    pub is : o ≡ Done u end

  -- the unit of tokens is the one that is read
  pub unit_gives : (tokens : List Sign) (u : CompilationUnit) → IsUnitOf tokens u → UnitGiven u (unit_of E tokens)
  unfolding unit IsEnd NoImport
  unit_gives tokens u h =
      let whole = all_gives in record { end = whole.end; is = whole.is }
    where
      start : At u.types (state [] tokens) (stage 0 u.types tokens)
      start = record { tokens = refl; number = refl; whole = refl }

      all_gives : Gives u.types u (stage (length u.types) [] []) (unit_of E tokens)
      all_gives =
          part_gives any_package (yield_package u.package) _ (λ ts. sees marks.Package ts ≡ false) _ (any_package_gives u.package h.in_package) start
          (spells_right (yield_package u.package) (each (map yield_import u.imports) outermost) (each (map yield_top u.declarations) outermost) h.spells)
          (λ m l. imports_no_package u.imports u.declarations m _ l refl) (λ t1 m1 at1 r1.
          part_gives (list any_import) (each (map yield_import u.imports) outermost) _ NoImport _ (imports_give u.imports h.imports) at1 r1
          (λ m l. (tops_open u.declarations m _ l refl).1) (λ t2 m2 at2 r2.
          last_gives (list (any_top E)) (each (map yield_top u.declarations) outermost) IsEnd _ (tops_give u.declarations) at2 r2 refl (λ t3 at3.
          first_gives (is_end t3.tokens) _ _ (ap is_end at3.tokens)
          (record { end = t3; at = at3; is = ap (λ ts. done_unit u ts t3) (sym (append-nil t3.types) ∙ at3.whole) }))))

  same_unit : (u v : CompilationUnit) (s t : State) → Done u s ≡ Done v t → u ≡ v
  same_unit u v s t e = cc

  -- tokens have at most one unit
  pub units_are_one : (tokens : List Sign) (u v : CompilationUnit) → IsUnitOf tokens u → IsUnitOf tokens v → u ≡ v
  units_are_one tokens u v h g =
      let x = unit_gives tokens u h in
      let y = unit_gives tokens v g in
      same_unit u v x.end y.end (sym x.is ∙ y.is)
