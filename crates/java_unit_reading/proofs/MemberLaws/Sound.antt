-- Types and their members: what their readers give stands in the tokens.
use Rattle.std.proofs.Common.{◌≡◌, ℕ, suc, ◌≤◌, Bool, true, false, ◌||◌, cond, List, [], ◌∷◌, ◌++◌, length, map, Option, Some, None, IfSome, refl, sym, ap, ◌∙◌, subst, append_assoc, arith, slice_set}
use Rattle.std.specs.List.{AllByRecursion}
use Rattle.std.specs.Str.{bytes_eq}
use Rattle.std.proofs.lemmas.List.{append-nil, length-set, length-append}
use Rattle.std.proofs.lemmas.Slice.Eq.{bytes_eq-Decides}
use Rattle.std.proofs.Math.Seq.{set-append_seam}
use Rattle.java_tree.specs.declared.mark.Mark.TheVariants as marks
use Rattle.java_tree.specs.declared.names.Ident.{Ident}
use Rattle.java_tree.specs.declared.names.Modifier.{Modifier}
use Rattle.java_tree.specs.declared.expr.Primary.{Primary}
use Rattle.java_tree.specs.declared.stmt.Block.{Block}
use Rattle.java_tree.specs.declared.token.Span.{Span}
use Rattle.java_tree.specs.declared.unit.Callee.{Callee}
use Rattle.java_tree.specs.declared.unit.Callee.TheVariants as callees
use Rattle.java_tree.specs.declared.unit.Explicit.{Explicit}
use Rattle.java_tree.specs.declared.unit.Member.{Member}
use Rattle.java_tree.specs.declared.unit.ResultType.{ResultType}
use Rattle.java_tree.specs.declared.unit.ResultType.TheVariants as results
use Rattle.java_tree.specs.declared.unit.TypeDecl.{TypeDecl}
use Rattle.java_tree.specs.declared.unit.TypeHead.{TypeHead}
use Rattle.java_tree.specs.declared.unit.TypeHead.TheVariants as heads
use Rattle.java_tree.specs.declared.unit.TypePlace.{TypePlace}
use Rattle.java_tree.specs.declared.unit.TypePlace.TheVariants as places
use Rattle.java_model.specs.Grammar.Signs.{Sign, mark, left_brace, this, super, word, literal, stray}
use Rattle.java_model.specs.Grammar.Pieces.{Piece, token, the, Around, less, each, parted, yield_name}
use Rattle.java_model.specs.Grammar.Forms.{IsNonEmpty}
use Rattle.java_model.specs.Grammar.Expressions.{IsPrimary, nested}
use Rattle.java_model.specs.Grammar.Statements.{IsBlock, IsParameter, IsStmt}
use Rattle.java_model.specs.Grammar.Units.{IsClassHead, IsHead, IsResult, IsCallee, IsExplicit, MayInitialize, IsMethodBody, HasName, IsMember, IsTypeDecl, Stage, stage, Spells, spells_nothing, spells_token, spells_type}
use Rattle.java_model.specs.Grammar.YieldExpr.{yield_primary}
use Rattle.java_model.specs.Grammar.YieldStmt.{yield_parameter}
use Rattle.java_model.specs.Grammar.YieldUnit.{yield_modifiers, yield_superclass, yield_head, yield_parameters, yield_result, yield_method_body, yield_callee, yield_explicit, yield_static, yield_member, inside}
use Rattle.java_model.proofs.Grammar.Spells.{spells_both}
use Rattle.java_model.proofs.Grammar.Braces.{HasNoHole, no_hole_head}
use Rattle.java_unit_reading.specs.Reading.Steps.{State, state, sees, tail, next, introduced, list, unless}
use Rattle.java_unit_reading.specs.Reading.Words.{name}
use Rattle.java_unit_reading.specs.Reading.Nested.{Exprs, Found, Here, Nothing, Parts}
use Rattle.java_unit_reading.specs.Reading.Statements.{parameter}
use Rattle.java_unit_reading.specs.Reading.Members.{class_head, interface_head, head, begins_type, begins_parameters, is_interface, has_name, begins_initializer, Opening, with_this, with_super, other, opening, comma_parameter, any_parameters, parameters, explicit_rest, super_in, super_word, begins_super_call, super_rest, qualified, explicit_by, explicit, method_body, method, constructor_body, constructor, field, typed, void_method, declared, initializer_block, member_type, member, any_member, unfinished, members_of, type_body, type_decl}
use Rattle.java_unit_reading.proofs.Sounding.{Stands, stands_nothing, stands_both, stands_one, stands_as, IfDone, done, fails, then, either, weaken, sound_expect, sound_brace, sound_identifier, Sound, Everywhere}
use Rattle.java_unit_reading.proofs.Listing.{stays, sound_many}
use Rattle.java_unit_reading.proofs.WordLaws.{sound_name, sound_clause, sound_dims, sound_type_use, sound_modifiers, introduced_yield, sound_option, eaten_yield, sound_eat, sound_unless}
use Rattle.java_unit_reading.proofs.Commas.{sound_commas}
use Rattle.java_unit_reading.proofs.Inside.{nested_in, primary_in}
use Rattle.java_unit_reading.proofs.Expressions.Holding.{ExprsHold, InPlace, TypeIs, PartsHold}
use Rattle.java_unit_reading.proofs.NestedLaws.{settle_sound, sound_arguments}
use Rattle.java_unit_reading.proofs.StatementLaws.Sound.{same_place, spread_each, sound_variables, sound_parameter, sound_statements, sound_block}

pub nowhere : Around
nowhere = record { left = 0; within = None; locals = [] }

-- ---- pieces without types

-- such pieces leave the types as they are
pub same_types : {ps : List Piece} {p q : Stage} → HasNoHole ps → Spells ps p q → (p.number ≡ q.number) × (p.types ≡ q.types)
same_types h (spells_nothing _) = (refl, refl)
same_types h (spells_token x ps ts p q e g) = same_types h g
same_types h (spells_type k ps c more p m q e shape g r) = absurd h

-- and stand wherever their tokens do
pub anywhere : {ps : List Piece} {p q : Stage} → HasNoHole ps → Spells ps p q
    → (n : ℕ) (types : List TypeDecl) → Spells ps (stage n types p.tokens) (stage n types q.tokens)
anywhere h (spells_nothing p) n types = spells_nothing _
anywhere h (spells_token x ps ts p q e g) n types = spells_token x ps ts _ _ e (anywhere h g n types)
anywhere h (spells_type k ps c more p m q e shape g r) n types = absurd h

types_kept : (ps : List Piece) (s t : State) → HasNoHole ps → Stands ps s t → t.types ≡ s.types
types_kept ps s t h g =
    let same = same_types h (g.spells []) in
    g.grows ∙ ap (λ xs. s.types ++ xs) (sym (append-nil g.more) ∙ same.1) ∙ append-nil s.types

-- ---- heads

sound_superclass : Sound Everywhere (λ o. IfSome o IsNonEmpty) (λ o a. yield_superclass o) (introduced marks.Extends name)
sound_superclass s = weaken (sound_option Everywhere IsNonEmpty (λ n a. yield_name n) marks.Extends name sound_name s) (λ o t h. by_option o h)
  where
    by_option : (o : Option (List Ident)) {t : State}
        → IfSome o IsNonEmpty × ((a : Around) → Everywhere a → Stands (introduced_yield marks.Extends (λ n b. yield_name n) o a) s t)
        → IfSome o IsNonEmpty × ((a : Around) → Everywhere a → Stands (yield_superclass o) s t)
    by_option None h = h
    by_option (Some x) h = h

abbrev pub HeadIs : TypePlace → State → TypeHead → State → Type 0
HeadIs place s h t = IsHead place h × Stands (yield_head h) s t

class_anywhere : (place : TypePlace) (c : _) → (place ≡ places.Anonymous → ⊥) → IsClassHead c → IsHead place (heads.Class c)
class_anywhere places.TopLevel c n h = h
class_anywhere places.Member c n h = h
class_anywhere places.Local c n h = h
class_anywhere places.Anonymous c n h = absurd (n refl)

sound_class_head : (place : TypePlace) (ms : List Modifier) (s t : State) → (place ≡ places.Anonymous → ⊥)
    → Stands (yield_modifiers ms) s t → IfDone (HeadIs place s) (class_head ms t)
unfolding class_head
sound_class_head place ms s t n h =
    then (sound_expect marks.Class t) (λ _ u g. then (sound_identifier u) (λ i v k. then (sound_superclass v) (λ e x q. then (sound_clause marks.Implements x) (λ ns y r.
    done (class_anywhere place _ n (q.0, r.0), stands_both h (stands_both g (stands_both k (stands_both (q.1 nowhere tt) (r.1 nowhere tt)))))))))

sound_interface_head : (ms : List Modifier) (s t : State) → Stands (yield_modifiers ms) s t
    → IfDone (λ h u. IsHead places.TopLevel h × (IsHead places.Member h × Stands (yield_head h) s u)) (interface_head ms t)
unfolding interface_head
sound_interface_head ms s t h =
    then (sound_expect marks.Interface t) (λ _ u g. then (sound_identifier u) (λ i v k. then (sound_clause marks.Extends v) (λ ns x r.
    done (r.0, (r.0, stands_both h (stands_both g (stands_both k (r.1 nowhere tt))))))))

not_anonymous : (p : TypePlace) → (p ≡ places.Anonymous) → p ≡ places.TopLevel → ⊥
not_anonymous p e f = cc

member_not : places.Member ≡ places.Anonymous → ⊥
member_not e = cc

top_not : places.TopLevel ≡ places.Anonymous → ⊥
top_not e = cc

local_not : places.Local ≡ places.Anonymous → ⊥
local_not e = cc

pub sound_head : (place : TypePlace) (s : State) → IfDone (HeadIs place s) (head place s)
unfolding head
sound_head places.Anonymous s = done (tt, stands_nothing s)
sound_head places.Local s = then (sound_modifiers s) (λ ms t h. sound_class_head places.Local ms s t local_not (h.1 nowhere tt))
sound_head places.TopLevel s =
    then (sound_modifiers s) (λ ms t h. either (sees marks.Class t.tokens) (λ e. sound_class_head places.TopLevel ms s t top_not (h.1 nowhere tt)) (λ e. weaken (sound_interface_head ms s t (h.1 nowhere tt)) (λ x u g. (g.0, g.1.1))))
sound_head places.Member s =
    then (sound_modifiers s) (λ ms t h. either (sees marks.Class t.tokens) (λ e. sound_class_head places.Member ms s t member_not (h.1 nowhere tt)) (λ e. weaken (sound_interface_head ms s t (h.1 nowhere tt)) (λ x u g. (g.1.0, g.1.1))))

pub no_initializer : (h : TypeHead) → is_interface h ≡ false → MayInitialize h
no_initializer (heads.Interface i) e = absurd cc
no_initializer (heads.Class c) e = tt
no_initializer heads.Anonymous e = tt

bytes_same : (xs ys : List ℕ) → bytes_eq xs ys ≡ true → xs ≡ ys
bytes_same xs ys e = (bytes_eq-Decides xs ys).0 e

pub name_is : (h : TypeHead) (i : Ident) → has_name h i ≡ true → HasName h i
name_is (heads.Class c) i e = bytes_same i.name c.name.name e
name_is (heads.Interface c) i e = absurd cc
name_is heads.Anonymous i e = absurd cc

sound_super_in : (types : List TypeDecl) (ts : List Sign) → IfDone (λ s t. Stands (token (super s) ∷ []) (state types ts) t) (super_in types ts)
sound_super_in types [] = fails
sound_super_in types (super s ∷ ts) = done (stands_one (super s) _ (state types ts) refl refl)
sound_super_in types (left_brace at ∷ ts) = fails
sound_super_in types (mark m ∷ ts) = fails
sound_super_in types (this s ∷ ts) = fails
sound_super_in types (word i ∷ ts) = fails
sound_super_in types (literal l ∷ ts) = fails
sound_super_in types (stray ∷ ts) = fails

sound_super_word : (s : State) → IfDone (λ sp t. Stands (token (super sp) ∷ []) s t) (super_word s)
unfolding super_word
sound_super_word s = sound_super_in s.types s.tokens

by_paren : (b : Bool) (o p : Opening) → cond b o other ≡ p → (p ≡ other → ⊥) → o ≡ p
by_paren true o p e f = e
by_paren false o p e f = absurd (f (sym e))

this_comes : (sp : Span) (ts : List Sign) → opening ts ≡ with_this sp → ts ≡ this sp ∷ tail ts
this_comes sp [] h = absurd cc
this_comes sp (this s ∷ ts) h = let e = by_paren (sees marks.LeftParen ts) (with_this s) (with_this sp) h (λ k. cc) in cc
this_comes sp (super s ∷ ts) h = absurd (not_super (sees marks.LeftParen ts) h)
  where
    not_super : (b : Bool) → cond b (with_super s) other ≡ with_this sp → ⊥
    not_super true k = cc
    not_super false k = cc
this_comes sp (left_brace at ∷ ts) h = absurd cc
this_comes sp (mark m ∷ ts) h = absurd cc
this_comes sp (word i ∷ ts) h = absurd cc
this_comes sp (literal l ∷ ts) h = absurd cc
this_comes sp (stray ∷ ts) h = absurd cc

super_comes : (sp : Span) (ts : List Sign) → opening ts ≡ with_super sp → ts ≡ super sp ∷ tail ts
super_comes sp [] h = absurd cc
super_comes sp (super s ∷ ts) h = let e = by_paren (sees marks.LeftParen ts) (with_super s) (with_super sp) h (λ k. cc) in cc
super_comes sp (this s ∷ ts) h = absurd (not_this (sees marks.LeftParen ts) h)
  where
    not_this : (b : Bool) → cond b (with_this s) other ≡ with_super sp → ⊥
    not_this true k = cc
    not_this false k = cc
super_comes sp (left_brace at ∷ ts) h = absurd cc
super_comes sp (mark m ∷ ts) h = absurd cc
super_comes sp (word i ∷ ts) h = absurd cc
super_comes sp (literal l ∷ ts) h = absurd cc
super_comes sp (stray ∷ ts) h = absurd cc

module _ (E : Exprs) (P : Parts) (d : ℕ) (w : Option ℕ) (fits : d ≤ 256) (holds : ExprsHold E) (parts : PartsHold E P d) where
  sound_any_parameters : Sound (InPlace d w) (AllByRecursion IsParameter) (λ ps a. parted (map yield_parameter ps) a) (any_parameters E P d w)
  unfolding any_parameters comma_parameter
  sound_any_parameters s =
      either (sees marks.RightParen s.tokens) (λ e. done (tt, λ a i. stands_nothing s))
      (λ e. weaken (sound_commas (InPlace d w) IsParameter yield_parameter same_place (parameter E P d w) (sound_parameter E P d w fits holds parts) s) (λ xs t h. (h.0.1, h.1)))

  sound_parameters : Sound (InPlace d w) (AllByRecursion IsParameter) (λ ps a. yield_parameters ps a) (parameters E P d w)
  unfolding parameters
  sound_parameters s =
      then (sound_expect marks.LeftParen s) (λ _ t g. then (sound_any_parameters t) (λ xs u h. then (sound_expect marks.RightParen u) (λ _ v k.
      done (h.0, λ a i. stands_both g (stands_both (h.1 a i) k)))))

  abbrev pub ExplicitIs : State → Option Explicit → State → Type 0
  ExplicitIs s o t = IfSome o (IsExplicit (nested d)) × ((a : Around) → InPlace d w a → Stands (yield_explicit o a) s t)

  sound_explicit_rest : (c : Callee) (s t : State) → IsCallee (nested d) c
      → ((a : Around) → InPlace d w a → Stands (yield_callee c a) s t)
      → IfDone (ExplicitIs s) (explicit_rest E P d w c t)
  unfolding explicit_rest
  sound_explicit_rest c s t h k =
      then (sound_arguments E P d w fits holds parts t) (λ xs u g. then (sound_expect marks.Semicolon u) (λ _ v r.
      done ((h, g.0), λ a i. stands_both (stands_both (k a i) (g.1 a i)) r)))

  sound_super_rest : (p : Primary) (s t : State) → IsPrimary (nested d) p
      → ((a : Around) → InPlace d w a → Stands (yield_primary p a) s t)
      → IfDone (ExplicitIs s) (super_rest E P d w p t)
  unfolding super_rest
  sound_super_rest p s t h g =
      then (sound_expect marks.Dot t) (λ _ u k. then (sound_super_word u) (λ sp v r.
      sound_explicit_rest (callees.Super (Some p) sp) s v h (λ a i. stands_both (g a i) (stands_both k r))))

  sound_qualified : (f : Found Primary) (s : State) → E.primary d s.tokens ≡ f → IfDone (ExplicitIs s) (qualified E P d w f s)
  sound_qualified Nothing s e = done (tt, λ a i. stands_nothing s)
  sound_qualified (Here p us) s e =
      either (begins_super_call us)
      (λ b. then (settle_sound E P d w fits holds parts (IsPrimary (nested d)) yield_primary (Here p us) s (λ x vs g. holds.primary_sound d fits x s.tokens vs (e ∙ g)) (λ x h a. primary_in (nested d) (nested_in d) x h a))
      (λ x t h. sound_super_rest x s t h.0 h.1))
      (λ b. done (tt, λ a i. stands_nothing s))

  sound_explicit_by : (o : Opening) (s : State) → opening s.tokens ≡ o → IfDone (ExplicitIs s) (explicit_by E P d w o s)
  sound_explicit_by (with_this sp) s e = sound_explicit_rest (callees.This sp) s (next s) tt (λ a i. stands_one (this sp) s (next s) (this_comes sp s.tokens e) refl)
  sound_explicit_by (with_super sp) s e = sound_explicit_rest (callees.Super None sp) s (next s) tt (λ a i. stands_one (super sp) s (next s) (super_comes sp s.tokens e) refl)
  sound_explicit_by other s e = sound_qualified (E.primary d s.tokens) s refl

  pub sound_explicit : (s : State) → IfDone (ExplicitIs s) (explicit E P d w s)
  unfolding explicit
  sound_explicit s = sound_explicit_by (opening s.tokens) s refl

  sound_method_body : (h : TypeHead)
      → Sound (InPlace d w) (IsMethodBody (nested d) (IsStmt d) h) (λ o a. yield_method_body o a) (method_body E P d w h)
  unfolding method_body
  sound_method_body h s =
      either (is_interface h || sees marks.Semicolon s.tokens) (λ e. then (sound_expect marks.Semicolon s) (λ _ t g. done (no_body h, λ a i. g)))
      (λ e. then (sound_block E P d w fits holds parts s) (λ b t g. done (some_body h b e g.0, λ a i. g.1 a i)))
    where
      no_body : (x : TypeHead) → IsMethodBody (nested d) (IsStmt d) x None
      no_body (heads.Interface i) = refl
      no_body (heads.Class c) = tt
      no_body heads.Anonymous = tt

      some_body : (x : TypeHead) (b : Block)
          → (is_interface x || sees marks.Semicolon s.tokens) ≡ false → IsBlock (nested d) (IsStmt d) b
          → IsMethodBody (nested d) (IsStmt d) x (Some b)
      some_body (heads.Interface i) b e k = absurd cc
      some_body (heads.Class c) b e k = k
      some_body heads.Anonymous b e k = k

  abbrev pub MemberIs : TypeHead → State → Member → State → Type 0
  MemberIs h s m t = IsMember (nested d) (IsStmt d) h m × ((a : Around) → InPlace d w a → Stands (yield_member m a) s t)

  sound_method : (h : TypeHead) (ms : List Modifier) (r : ResultType) (s t : State) → IsResult r
      → Stands (yield_modifiers ms ++ yield_result r) s t → IfDone (MemberIs h s) (method E P d w h ms r t)
  unfolding method
  sound_method h ms r s t is g =
      then (sound_identifier t) (λ i t1 h1. then (sound_parameters t1) (λ ps t2 h2. then (sound_dims t2) (λ n t3 h3. then (sound_clause marks.Throws t3) (λ ts t4 h4. then (sound_method_body h t4) (λ b t5 h5.
      done ((is, h2.0, h4.0, h5.0), λ a i. stands_both g (stands_both h1 (stands_both (stands_both (stands_both (h2.1 a i) (h3.1 a tt)) (h4.1 a tt)) (h5.1 a i)))))))))

  sound_constructor : (h : TypeHead) (ms : List Modifier) (s t : State) → Stands (yield_modifiers ms) s t
      → IfDone (MemberIs h s) (constructor E P d w h ms t)
  unfolding constructor constructor_body
  sound_constructor h ms s t g =
      then (sound_identifier t) (λ i t1 h1. either (has_name h i) (λ e. then (sound_parameters t1) (λ ps t2 h2. then (sound_clause marks.Throws t2) (λ ts t3 h3.
      then (sound_brace t3) (λ at t4 h4. then (sound_explicit t4) (λ x t5 h5. then (sound_statements E P d w fits holds parts t5) (λ ss t6 h6. then (sound_expect marks.RightBrace t6) (λ _ t7 h7.
      done (
        (name_is h i e, h2.0, h3.0, h5.0, h6.0),
        λ a j.
            stands_both g (stands_both h1 (stands_both (stands_both (h2.1 a j) (h3.1 a tt)) (stands_both h4 (stands_both (stands_both (h5.1 a j) (h6.1 a j)) h7)))),
      )))))))) (λ e. fails))

  sound_field : (h : TypeHead) (ms : List Modifier) (r : ResultType) (s t : State) → IsResult r
      → Stands (yield_modifiers ms ++ yield_result r) s t → IfDone (MemberIs h s) (field E P d w ms r t)
  unfolding field
  sound_field h ms results.Void s t is g = fails
  sound_field h ms (results.Of ty) s t is g =
      then (sound_variables E P d w fits holds parts t) (λ vs t1 h1. then (sound_expect marks.Semicolon t1) (λ _ t2 h2. done ((is, h1.0), λ a i. stands_both (stands_both g (h1.1 a i)) h2)))

  sound_declared : (h : TypeHead) (ms : List Modifier) (s t : State) → Stands (yield_modifiers ms) s t
      → IfDone (MemberIs h s) (declared E P d w h ms t)
  unfolding declared typed void_method
  sound_declared h ms s t g =
      either (sees marks.Void t.tokens) (λ e. then (sound_expect marks.Void t) (λ _ t1 h1. sound_method h ms results.Void s t1 tt (stands_both g h1)))
      (λ e. either (begins_parameters t.tokens) (λ e2. sound_constructor h ms s t g)
      (λ e2. then (sound_type_use t) (λ ty t1 h1. either (begins_parameters t1.tokens) (λ e3. sound_method h ms (results.Of ty) s t1 h1.0 (stands_both g (h1.1 nowhere tt))) (λ e3. sound_field h ms (results.Of ty) s t1 h1.0 (stands_both g (h1.1 nowhere tt))))))

  static_is : (b : Bool) → eaten_yield marks.Static b ≡ yield_static b
  static_is true = refl
  static_is false = refl

  sound_initializer_block : (h : TypeHead) (s : State) → IfDone (MemberIs h s) (initializer_block E P d w h s)
  unfolding initializer_block
  sound_initializer_block h s =
      then (sound_eat marks.Static s) (λ b t h1. then (sound_block E P d w fits holds parts t) (λ x t2 h2. either (is_interface h) (λ e. fails) (λ e.
      done ((no_initializer h e, h2.0), λ a i. stands_both (stands_as (static_is b) h1) (h2.1 a i)))))

  pub sound_member : (h : TypeHead) (s : State) → IfDone (MemberIs h s) (member E P d w h s)
  unfolding member member_type
  sound_member h s =
      either (sees marks.Semicolon s.tokens) (λ e. then (sound_expect marks.Semicolon s) (λ _ t g. done (tt, λ a i. g)))
      (λ e. either (begins_initializer s.tokens) (λ e2. sound_initializer_block h s)
      (λ e2. either (begins_type s.tokens) (λ e3. then (parts.type_sound d places.Member w s) (λ at t g. done (tt, λ a i. g _ refl refl i.left i.within)))
      (λ e3. then (sound_modifiers s) (λ ms t g. sound_declared h ms s t (g.1 nowhere tt)))))

module _ (E : Exprs) (P : Parts) (d : ℕ) (fits : d ≤ 256) (holds : ExprsHold E) (parts : PartsHold E P d) where
  abbrev pub MembersAre : TypeHead → ℕ → State → List Member → State → Type 0
  MembersAre h number s ms t =
      AllByRecursion (IsMember (nested d) (IsStmt d) h) ms
      × ((a : Around) → InPlace d (Some number) a → Stands (each (map yield_member ms) a ++ the marks.RightBrace ∷ []) s t)

  sound_member_list : (h : TypeHead) (number : ℕ)
      → Sound (InPlace d (Some number)) (AllByRecursion (IsMember (nested d) (IsStmt d) h)) (λ ms a. each (map yield_member ms) a) (list (any_member E P d (Some number) h))
  unfolding any_member
  sound_member_list h number s =
      weaken (sound_many (InPlace d (Some number)) (IsMember (nested d) (IsStmt d) h) (λ m a. yield_member m a) stays (unless (sees marks.RightBrace) (member E P d (Some number) h)) (λ x a _ i. i)
      (sound_unless (InPlace d (Some number)) (IsMember (nested d) (IsStmt d) h) (λ m a. yield_member m a) (sees marks.RightBrace) (member E P d (Some number) h) (sound_member E P d (Some number) fits holds parts h)) _ [] s)
      (λ xs t g. (subst (AllByRecursion (IsMember (nested d) (IsStmt d) h)) (sym g.is) g.shapes, λ a i. stands_as (spread_each yield_member g.more a ∙ ap (λ ys. each (map yield_member ys) a) (sym g.is)) (g.stands a i)))

  sound_members_of : (h : TypeHead) (number : ℕ) (s : State) → IfDone (MembersAre h number s) (members_of E P d h number s)
  unfolding members_of
  sound_members_of h number s = then (sound_member_list h number s) (λ xs t g. then (sound_expect marks.RightBrace t) (λ _ u k. done (g.0, λ a i. stands_both (g.1 a i) k)))

  abbrev decl_of : TypePlace → Option ℕ → TypeHead → ℕ → List Member → TypeDecl
  decl_of place w h at ms = record { parent = w; place = place; head = h; brace = at; members = ms }

  -- a type that is put into its place
  body_stands : (place : TypePlace) (w : Option ℕ) (h : TypeHead) (at : ℕ) (ms : List Member) (s s1 s2 t : State)
      → IsHead place h → Stands (yield_head h) s s1 → Stands (token (left_brace at) ∷ []) s1 s2
      → MembersAre h (length s2.types) (state (s2.types ++ unfinished ∷ []) s2.tokens) ms t
      → TypeIs (suc d) place w s at (state (slice_set t.types (length s2.types) (decl_of place w h at ms)) t.tokens)
  body_stands place w h at ms s s1 s2 t is_head head_stands brace_stands g k e f l m =
      let decl = decl_of place w h at ms in
      let a : Around = inside (length s2.types) k in
      let i : InPlace d (Some (length s2.types)) a = record { left = ap less l; within = refl } in
      let body = g.1 a i in
      let one : s1.types ≡ s.types = types_kept (yield_head h) s s1 (no_hole_head h) head_stands in
      let two : s2.types ≡ s1.types = types_kept (token (left_brace at) ∷ []) s1 s2 tt brace_stands in
      let same : s2.types ≡ s.types = two ∙ one in
      let len : length s2.types ≡ length s.types = ap length same in
      let grown : t.types ≡ s2.types ++ unfinished ∷ body.more = body.grows ∙ append_assoc s2.types (unfinished ∷ []) body.more in
      let placed : slice_set t.types (length s2.types) decl ≡ s2.types ++ decl ∷ body.more = ap (λ xs. slice_set xs (length s2.types) decl) grown ∙ set-append_seam s2.types unfinished body.more decl in
      let long : length (s2.types ++ unfinished ∷ []) ≡ suc (length s2.types) = omega (arith, length-append s2.types (unfinished ∷ [])) in
      let end = slice_set t.types (length s2.types) decl in
      let kept : length t.types ≡ length end = sym (length-set t.types (length s2.types) decl) in
      let shape : IsTypeDecl k decl = record { brace = sym e; place = sym f; parent = sym m; head = subst (λ p. IsHead p h) (sym f) is_head; left = d; counted = l; members = g.0 } in
      record {
        more = decl ∷ body.more;
        grows = placed ∙ ap (λ xs. xs ++ decl ∷ body.more) same;
        spells = λ others.
            let members2 = subst (λ n. Spells (each (map yield_member ms) (inside (length s2.types) k) ++ the marks.RightBrace ∷ []) (stage n (body.more ++ others) s2.tokens) (stage (length end) others t.tokens)) long
            (subst (λ n. Spells (each (map yield_member ms) (inside (length s2.types) k) ++ the marks.RightBrace ∷ []) (stage (length (s2.types ++ unfinished ∷ [])) (body.more ++ others) s2.tokens) (stage n others t.tokens)) kept (body.spells others)) in
            let members3 = subst (λ n. Spells (each (map yield_member ms) (inside n k) ++ the marks.RightBrace ∷ []) (stage (suc n) (body.more ++ others) s2.tokens) (stage (length end) others t.tokens)) len members2 in
            spells_type k [] decl (body.more ++ others) _ _ _ refl shape
            (spells_both (yield_head h) _ _ _ _ (anywhere (no_hole_head h) (head_stands.spells []) (suc (length s.types)) (body.more ++ others))
            (spells_both (token (left_brace at) ∷ []) _ _ _ _ (anywhere {ps = token (left_brace at) ∷ []} tt (brace_stands.spells []) (suc (length s.types)) (body.more ++ others)) members3))
            (spells_nothing _);
      }

  pub sound_type_decl : (place : TypePlace) (w : Option ℕ) (s : State) → IfDone (TypeIs (suc d) place w s) (type_decl E P d place w s)
  unfolding type_decl type_body
  sound_type_decl place w s =
      then (sound_head place s) (λ h s1 k. then (sound_brace s1) (λ at s2 b.
      then (sound_members_of h (length s2.types) (state (s2.types ++ unfinished ∷ []) s2.tokens)) (λ ms t g.
      done (body_stands place w h at ms s s1 s2 t k.0 k.1 b g))))
