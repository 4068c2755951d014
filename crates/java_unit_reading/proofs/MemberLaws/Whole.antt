-- Members and types as a whole.
use Rattle.std.proofs.Common.{◌≡◌, ℕ, zero, suc, ◌≤◌, Bool, true, false, ◌||◌, List, [], ◌∷◌, ◌++◌, map, Option, Some, None, IfSome, refl, sym, ap, ◌∙◌, subst, append_assoc, arith}
use Rattle.std.specs.List.{AllByRecursion}
use Rattle.std.proofs.lemmas.Slice.Eq.{bytes_eq-Decides}
use Rattle.java_tree.specs.declared.mark.Mark.TheVariants as marks
use Rattle.java_tree.specs.declared.names.Ident.{Ident}
use Rattle.java_tree.specs.declared.names.Modifier.{Modifier}
use Rattle.java_tree.specs.declared.expr.Primary.{Primary}
use Rattle.java_tree.specs.declared.stmt.Block.{Block}
use Rattle.java_tree.specs.declared.stmt.BlockStatement.{BlockStatement}
use Rattle.java_tree.specs.declared.stmt.Parameter.{Parameter}
use Rattle.java_tree.specs.declared.token.Span.{Span}
use Rattle.java_tree.specs.declared.unit.Callee.{Callee}
use Rattle.java_tree.specs.declared.unit.Callee.TheVariants as callees
use Rattle.java_tree.specs.declared.unit.Constructor.{Constructor}
use Rattle.java_tree.specs.declared.unit.Explicit.{Explicit}
use Rattle.java_tree.specs.declared.unit.Member.{Member}
use Rattle.java_tree.specs.declared.unit.Member.TheVariants as members
use Rattle.java_tree.specs.declared.unit.ResultType.{ResultType}
use Rattle.java_tree.specs.declared.unit.ResultType.TheVariants as results
use Rattle.java_tree.specs.declared.unit.TypeDecl.{TypeDecl}
use Rattle.java_tree.specs.declared.unit.TypeHead.{TypeHead}
use Rattle.java_tree.specs.declared.unit.TypeHead.TheVariants as heads
use Rattle.java_tree.specs.declared.unit.TypePlace.TheVariants as places
use Rattle.java_model.specs.Grammar.Signs.{Sign, mark, left_brace, this, super, word, literal, stray}
use Rattle.java_model.specs.Grammar.Pieces.{Piece, token, hole, Hole, the, Around, parted, yield_dims, yield_type}
use Rattle.java_model.specs.Grammar.Forms.{IsNonEmpty}
use Rattle.java_model.specs.Grammar.Expressions.{IsExpr, IsPrimary, IsType, nested}
use Rattle.java_model.specs.Grammar.Statements.{IsBlock, IsBlockStatements, IsParameter, IsVariables, IsStmt}
use Rattle.java_model.specs.Grammar.Units.{IsResult, IsCallee, IsExplicit, MayInitialize, IsMethodBody, IsMethod, HasName, IsConstructor, IsMember, Stage, Spells, spells_nothing}
use Rattle.java_model.specs.Grammar.YieldExpr.{yield_expr, yield_primary, yield_arguments}
use Rattle.java_model.specs.Grammar.YieldStmt.{all_yield, yield_parameter, yield_variables, yield_block, yield_block_statement}
use Rattle.java_model.specs.Grammar.YieldUnit.{yield_modifiers, yield_clause, yield_parameters, yield_result, yield_method_body, yield_callee, yield_explicit, yield_static, yield_member}
use Rattle.java_unit_reading.specs.Reading.Steps.{State, state, Done, Parser, and_then, sees, sees_brace, tail, next, eat, brace, list}
use Rattle.java_unit_reading.specs.Reading.Words.{clause, dims, type_use, modifiers, skip_modifiers}
use Rattle.java_unit_reading.specs.Reading.Nested.{Exprs, Found, Here, Nothing, Parts, settle, arguments}
use Rattle.java_unit_reading.specs.Reading.Statements.{any_block_statement, block, parameter, variables}
use Rattle.java_unit_reading.specs.Reading.Members.{begins_type, begins_parameters, is_interface, has_name, begins_initializer, Opening, with_this, with_super, other, opening, comma_parameter, any_parameters, parameters, explicit_rest, super_in, super_word, begins_super_call, super_rest, qualified, explicit_by, explicit, method_body, method, constructor_body, constructor, field, typed, void_method, declared, initializer_block, member_type, member, any_member}
use Rattle.java_tree.specs.declared.names.Primitive.{Primitive}
use Rattle.java_tree.specs.declared.names.Primitive.TheVariants as primitives
use Rattle.java_tree.specs.declared.names.TypeUse.{TypeUse}
use Rattle.java_tree.specs.declared.stmt.Variable.{Variable}
use Rattle.java_tree.specs.declared.unit.Method.{Method}
use Rattle.java_tree.specs.declared.unit.Fields.{Fields}
use Rattle.java_model.specs.Grammar.Signs.{primitive_mark}
use Rattle.java_model.specs.Grammar.Pieces.{dotted as yield_dotted}
use Rattle.java_model.specs.Grammar.Statements.{any, IsBlockStatement, local_class as a_local_class, local as a_local, statement as a_statement}
use Rattle.java_model.specs.Grammar.YieldStmt.{yield_any_initializer}
use Rattle.java_model.proofs.Grammar.Reads.{spells_split, spells_token_of}
use Rattle.java_model.proofs.Grammar.YieldStmt.{yield_block_statement-LocalClass, yield_block_statement-Local, yield_block_statement-Statement, yield_block-parts}
use Rattle.java_expr_reading.specs.Shapes.{same_mark}
use Rattle.java_unit_reading.specs.Reading.Words.{declares}
use Rattle.java_unit_reading.specs.Reading.Statements.{begins_class, begins_local}
use Rattle.java_unit_reading.proofs.Sounding.{sees_is}
use Rattle.java_unit_reading.proofs.Completing.{At, Gives, gives, Complete, Always, then_gives, first_gives, second_gives, at_end, at_next, headed, sees_same, sees_next, expect_gives, brace_gives, word_gives, part_gives, last_gives, spells_as, spells_right}
use Rattle.java_unit_reading.proofs.WordLaws.{NoModifier, NoDim, WordNext, EndsClause, eaten_yield, clause_gives, dims_gives, type_gives, modifiers_gives, eat_gives, unless_gives}
use Rattle.java_unit_reading.proofs.Commas.{EndsList, commas_gives}
use Rattle.java_unit_reading.proofs.Inside.{nested_in, primary_in}
use Rattle.java_unit_reading.proofs.Expressions.Holding.{begins_expr, begins_expr_with, ExprsHold, InPlace, PartsHold, EndsStmt}
use Rattle.java_unit_reading.proofs.NestedLaws.{settle_gives, arguments_gives, reads_at}
use Rattle.java_unit_reading.proofs.Lookahead.{type_headed}
use Rattle.java_unit_reading.proofs.StatementLaws.Sound.{same_place}
use Rattle.java_unit_reading.proofs.StatementLaws.Complete.{EndsVariables, variables_gives, variables_headed, local_begins, class_begins, parameter_gives, statements_gives, block_gives, type_gives_at, EndsBlock}
use Rattle.std.proofs.lemmas.Slice.Eq.{bytes_eq-Decides}
use Rattle.java_unit_reading.proofs.StatementLaws.Complete.{behind_statements, right_brace_ends, expr_no_local}
use Rattle.java_unit_reading.proofs.StatementLaws.Whole.{expr_mark_plain}
use Rattle.java_unit_reading.proofs.StatementLaws.Sound.{leaves_in_place}
use Rattle.java_unit_reading.specs.Reading.Words.{skip_modifiers, declares}
use Rattle.java_tree.specs.declared.names.ElementType.TheVariants as elements
use Rattle.java_model.specs.Grammar.Expressions.{IsElement}
use Rattle.java_model.specs.Grammar.Pieces.{yield_element, behind_commas}
use Rattle.java_model.specs.Grammar.YieldStmt.{yield_final, yield_variable}
use Rattle.java_unit_reading.specs.Reading.Members.{super_in, super_word, begins_super_call, super_rest}
use Rattle.java_unit_reading.proofs.MemberLaws.Complete.{NoType, cond_false, BehindModifiers, modifiers_open, modifiers_skip, void_behind, word_behind, type_behind, type_begins, void_no_type, word_no_type, or_both}

paren_ends_list : (ts : List Sign) → EndsList NoDim (mark marks.RightParen ∷ ts)
unfolding sees same_mark
paren_ends_list ts = (refl, refl)

comma_no_dim : (ts : List Sign) → sees marks.Comma ts ≡ true → NoDim ts
unfolding sees same_mark
comma_no_dim ts h = subst NoDim (sym (sees_is marks.Comma ts h)) refl

final_no_paren : (ts : List Sign) → sees marks.RightParen (mark marks.Final ∷ ts) ≡ false
unfolding sees same_mark
final_no_paren ts = refl

primitive_no_paren : (x : Primitive) (ts : List Sign) → sees marks.RightParen (mark (primitive_mark x) ∷ ts) ≡ false
unfolding sees same_mark
primitive_no_paren primitives.Boolean ts = refl
primitive_no_paren primitives.Byte ts = refl
primitive_no_paren primitives.Short ts = refl
primitive_no_paren primitives.Char ts = refl
primitive_no_paren primitives.Int ts = refl
primitive_no_paren primitives.Long ts = refl
primitive_no_paren primitives.Float ts = refl
primitive_no_paren primitives.Double ts = refl

word_no_paren : (i : Ident) (ts : List Sign) → sees marks.RightParen (word i ∷ ts) ≡ false
unfolding sees
word_no_paren i ts = refl

Paren : List Sign → Type 0
Paren ts = sees marks.RightParen ts ≡ true

super_in_is : (types : List TypeDecl) (ts us : List Sign) (s : Span) → ts ≡ super s ∷ us → super_in types ts ≡ Done s (state types us)
super_in_is types ts us s e = rw e

super_gives : {B : Type 0} {total : List TypeDecl} {y : B} {s : State} {p q end : Stage} (sp : Span) (ps : List Piece) (f : Span → Parser B)
    → At total s p → Spells (token (super sp) ∷ ps) p q
    → ((t : State) (mid : Stage) → At total t mid → Spells ps mid q → Gives total y end (f sp t)) → Gives total y end (and_then (super_word s) f)
unfolding super_word
super_gives {s = s} {p = p} {q = q} sp ps f h g k =
    spells_token_of (super sp) ps p q g (λ ts e r.
    then_gives (super_in s.types s.tokens) f (record { end = state s.types ts; at = record { tokens = refl; number = h.number; whole = h.whole }; is = super_in_is s.types s.tokens ts sp (h.tokens ∙ e) })
    (λ t a. k t _ a r))

pub super_call_is : (s : Span) (ts : List Sign) → begins_super_call (mark marks.Dot ∷ super s ∷ mark marks.LeftParen ∷ ts) ≡ true
unfolding sees same_mark
super_call_is s ts = refl

this_opening : (s : Span) (ts : List Sign) → opening (this s ∷ mark marks.LeftParen ∷ ts) ≡ with_this s
unfolding sees same_mark
this_opening s ts = refl

super_opening : (s : Span) (ts : List Sign) → opening (super s ∷ mark marks.LeftParen ∷ ts) ≡ with_super s
unfolding sees same_mark
super_opening s ts = refl

-- what stands behind a method's dims
throws_no_dim : (ts : List Sign) → NoDim (mark marks.Throws ∷ ts)
unfolding sees same_mark
throws_no_dim ts = refl

semicolon_ends_throws : (ts : List Sign) → EndsClause marks.Throws (mark marks.Semicolon ∷ ts) × NoDim (mark marks.Semicolon ∷ ts)
unfolding sees same_mark
semicolon_ends_throws ts = ((refl, (refl, refl)), refl)

brace_ends_throws : (b : ℕ) (ts : List Sign) → EndsClause marks.Throws (left_brace b ∷ ts) × NoDim (left_brace b ∷ ts)
unfolding sees same_mark
brace_ends_throws b ts = ((refl, (refl, refl)), refl)

no_semicolon_at : (b : ℕ) (ts : List Sign) → sees marks.Semicolon (left_brace b ∷ ts) ≡ false
unfolding sees
no_semicolon_at b ts = refl

block_headed : (F : List Sign → Type 0) (b : Block) (a : Around) (p q : Stage)
    → ((n : ℕ) (ts : List Sign) → F (left_brace n ∷ ts)) → Spells (yield_block b a) p q → F p.tokens
block_headed F b a p q f g = headed F (left_brace b.brace) _ p q (f b.brace) (spells_as (yield_block-parts b a) g)

body_headed : (F : List Sign → Type 0) (o : Option Block) (a : Around) (p q : Stage)
    → ((n : ℕ) (ts : List Sign) → F (left_brace n ∷ ts)) → ((ts : List Sign) → F (mark marks.Semicolon ∷ ts))
    → Spells (yield_method_body o a) p q → F p.tokens
body_headed F None a p q f k g = headed F (mark marks.Semicolon) _ p q k g
body_headed F (Some b) a p q f k g = block_headed F b a p q f g

clause_no_dim : (ns : List (List Ident)) (qs : List Piece) (p q : Stage)
    → ((Spells qs p q) → NoDim p.tokens) → Spells (yield_clause marks.Throws ns ++ qs) p q → NoDim p.tokens
clause_no_dim [] qs p q f g = f g
clause_no_dim (n ∷ ns) qs p q f g = headed NoDim (mark marks.Throws) _ p q throws_no_dim g

-- a class begins no expression
class_no_expr : (ts : List Sign) → begins_class ts ≡ true → begins_expr ts ≡ false
unfolding sees same_mark skip_modifiers
class_no_expr [] h = refl
class_no_expr (mark m ∷ ts) h = by_test (begins_expr_with m) refl
  where
    by_test : (b : Bool) → begins_expr_with m ≡ b → begins_expr_with m ≡ false
    by_test false k = k
    by_test true k = let f = expr_mark_plain m ts k in let e = sym f.1 ∙ h in absurd cc
class_no_expr (left_brace b ∷ ts) h = refl
class_no_expr (this s ∷ ts) h = absurd cc
class_no_expr (super s ∷ ts) h = absurd cc
class_no_expr (word i ∷ ts) h = absurd cc
class_no_expr (literal l ∷ ts) h = absurd cc
class_no_expr (stray ∷ ts) h = refl

no_expr_unopened : (ts : List Sign) → begins_expr ts ≡ false → opening ts ≡ other
no_expr_unopened [] h = refl
no_expr_unopened (mark m ∷ ts) h = refl
no_expr_unopened (left_brace b ∷ ts) h = refl
no_expr_unopened (this s ∷ ts) h = absurd cc
no_expr_unopened (super s ∷ ts) h = absurd cc
no_expr_unopened (word i ∷ ts) h = refl
no_expr_unopened (literal l ∷ ts) h = refl
no_expr_unopened (stray ∷ ts) h = refl

local_unopened : (ts : List Sign) → begins_local ts ≡ true → opening ts ≡ other
unfolding sees declares
local_unopened [] h = refl
local_unopened (mark m ∷ ts) h = refl
local_unopened (left_brace b ∷ ts) h = refl
local_unopened (this s ∷ ts) h = absurd cc
local_unopened (super s ∷ ts) h = absurd cc
local_unopened (word i ∷ ts) h = refl
local_unopened (literal l ∷ ts) h = refl
local_unopened (stray ∷ ts) h = refl

true_false : (b : Bool) → b ≡ true → b ≡ false → ⊥
true_false b h k = let e = sym h ∙ k in cc

-- what follows an identifier that is no call
abbrev NoCall : List Sign → Type 0
NoCall ts = sees marks.LeftParen ts ≡ false

dot_no_call : (ts : List Sign) → NoCall (mark marks.Dot ∷ ts)
unfolding sees same_mark
dot_no_call ts = refl

bracket_no_call : (ts : List Sign) → NoCall (mark marks.LeftBracket ∷ ts)
unfolding sees same_mark
bracket_no_call ts = refl

word_no_call : (ts : List Sign) → WordNext ts → NoCall ts
unfolding sees
word_no_call [] h = refl
word_no_call (word i ∷ ts) h = refl
word_no_call (mark m ∷ ts) h = absurd cc
word_no_call (left_brace b ∷ ts) h = absurd cc
word_no_call (this s ∷ ts) h = absurd cc
word_no_call (super s ∷ ts) h = absurd cc
word_no_call (literal l ∷ ts) h = absurd cc
word_no_call (stray ∷ ts) h = absurd cc

mark_no_call : (ts : List Sign) → NoCall (mark marks.Assign ∷ ts) × (NoCall (mark marks.Comma ∷ ts) × NoCall (mark marks.Semicolon ∷ ts))
unfolding sees same_mark
mark_no_call ts = (refl, (refl, refl))

primitive_no_word : (x : Primitive) (ts : List Sign) → begins_parameters (mark (primitive_mark x) ∷ ts) ≡ false
primitive_no_word x ts = refl

type_no_call : (t : TypeUse) (p q : Stage) → IsType t → Spells (yield_type t) p q → WordNext q.tokens → begins_parameters p.tokens ≡ false
type_no_call t p q h g follow = spells_split (yield_element t.element) (yield_dims t.dims) p q g (λ m l r. by_element t.element h m l r)
  where
    behind_dims : (n : ℕ) (m : Stage) → Spells (yield_dims n) m q → NoCall m.tokens
    behind_dims zero m (spells_nothing _) = word_no_call m.tokens follow
    behind_dims (suc n) m r = headed NoCall (mark marks.LeftBracket) _ m q bracket_no_call r

    behind_dots : (n : List Ident) (a m : Stage) → Spells (yield_dotted n) a m → Spells (yield_dims t.dims) m q → NoCall a.tokens
    behind_dots [] a m (spells_nothing _) r = behind_dims t.dims m r
    behind_dots (i ∷ n) a m l r = headed NoCall (mark marks.Dot) _ a m dot_no_call l

    by_element : (e : _) → IsElement e → (m : Stage) → Spells (yield_element e) p m
        → Spells (yield_dims t.dims) m q → begins_parameters p.tokens ≡ false
    by_element (elements.Primitive x) k m l r = headed (λ ts. begins_parameters ts ≡ false) (mark (primitive_mark x)) _ p m (primitive_no_word x) l
    by_element (elements.Named []) k m l r = absurd k
    by_element (elements.Named (i ∷ n)) k m l r =
        spells_token_of (word i) _ p m l (λ ts e last. ap begins_parameters e ∙ behind_dots n _ m last r)

variables_no_call : (vs : List Variable) (a : Around) (qs : List Piece) (p q : Stage) → IsNonEmpty vs
    → Spells (yield_variables vs a ++ the marks.Semicolon ∷ qs) p q → begins_parameters p.tokens ≡ false
variables_no_call [] a qs p q h g = absurd h
variables_no_call (v ∷ vs) a qs p q h g =
    spells_token_of (word v.name) _ p q g (λ ts e r. ap begins_parameters e ∙ behind_name v.dims v.initializer vs _ (spells_right (yield_dims v.dims ++ yield_any_initializer v.initializer a) _ (the marks.Semicolon ∷ qs) r))
  where
    behind_initializer : (o : Option _) (xs : List Variable) (m : Stage)
        → Spells (yield_any_initializer o a ++ (behind_commas (map yield_variable xs) a ++ the marks.Semicolon ∷ qs)) m q
        → NoCall m.tokens
    behind_initializer (Some i) xs m r = headed NoCall (mark marks.Assign) _ m q (λ us. (mark_no_call us).0) r
    behind_initializer None [] m r = headed NoCall (mark marks.Semicolon) _ m q (λ us. (mark_no_call us).1.1) r
    behind_initializer None (x ∷ xs) m r = headed NoCall (mark marks.Comma) _ m q (λ us. (mark_no_call us).1.0) r

    behind_name : (n : ℕ) (o : Option _) (xs : List Variable) (m : Stage)
        → Spells ((yield_dims n ++ yield_any_initializer o a) ++ (behind_commas (map yield_variable xs) a ++ the marks.Semicolon ∷ qs)) m q
        → NoCall m.tokens
    behind_name zero o xs m r = behind_initializer o xs m r
    behind_name (suc n) o xs m r = headed NoCall (mark marks.LeftBracket) _ m q bracket_no_call r

member_not : places.Member ≡ places.Anonymous → ⊥
member_not e = cc

semicolon_no_end : (ts : List Sign) → sees marks.RightBrace (mark marks.Semicolon ∷ ts) ≡ false
unfolding sees same_mark
semicolon_no_end ts = refl

sees_brace_not : (n : ℕ) (ts : List Sign) → sees marks.Static (left_brace n ∷ ts) ≡ false
unfolding sees
sees_brace_not n ts = refl

-- what an initializer begins with
abbrev OpensInitializer : List Sign → Type 0
OpensInitializer ts = (sees marks.RightBrace ts ≡ false) × (sees marks.Semicolon ts ≡ false) × (begins_initializer ts ≡ true)

brace_opens_initializer : (n : ℕ) (ts : List Sign) → OpensInitializer (left_brace n ∷ ts)
unfolding sees
brace_opens_initializer n ts = (refl, refl, refl)

static_opens_initializer : (ts : List Sign) → sees_brace ts ≡ true → OpensInitializer (mark marks.Static ∷ ts)
unfolding sees same_mark
static_opens_initializer ts h = (refl, refl, h)

initializer_opens : (b : Bool) (x : Block) (a : Around) (p q : Stage) → Spells (yield_static b ++ yield_block x a) p q → OpensInitializer p.tokens
initializer_opens false x a p q g = block_headed OpensInitializer x a p q brace_opens_initializer g
initializer_opens true x a p q g =
    spells_token_of (mark marks.Static) _ p q g (λ ts e r. subst OpensInitializer (sym e) (static_opens_initializer ts (block_headed (λ us. sees_brace us ≡ true) x a _ q (λ n us. refl) r)))

module _ (E : Exprs) (P : Parts) (d : ℕ) (w : Option ℕ) (fits : d ≤ 256) (holds : ExprsHold E) (parts : PartsHold E P d) where
  parameter_no_paren : (x : Parameter) (qs : List Piece) (a : Around) (p q : Stage) → IsParameter x
      → Spells (yield_parameter x a ++ qs) p q → sees marks.RightParen p.tokens ≡ false
  parameter_no_paren x qs a p q h g =
      by_final x.is_final (spells_right (yield_final x.is_final) (yield_type x.of) _ (spells_right (yield_final x.is_final ++ yield_type x.of) _ qs g))
    where
      by_final : (b : Bool)
          → Spells (yield_final b ++ (yield_type x.of ++ ((token (word x.name) ∷ yield_dims x.dims) ++ qs))) p q
          → sees marks.RightParen p.tokens ≡ false
      by_final true r = headed (λ ts. sees marks.RightParen ts ≡ false) (mark marks.Final) _ p q final_no_paren r
      by_final false r = type_headed (λ ts. sees marks.RightParen ts ≡ false) x.of _ p q h primitive_no_paren word_no_paren r

  any_parameters_gives : (xs : List Parameter) (a : Around) → AllByRecursion IsParameter xs
      → InPlace d w a → Complete (any_parameters E P d w) (parted (map yield_parameter xs) a) xs Paren
  unfolding any_parameters comma_parameter Paren
  any_parameters_gives [] a h i total s from to at g follow =
      first_gives (sees marks.RightParen s.tokens) _ _ (ap (sees marks.RightParen) (at_end at g).tokens ∙ follow) (gives s (at_end at g))
  any_parameters_gives (x ∷ xs) a h i total s from to at g follow =
      second_gives (sees marks.RightParen s.tokens) _ _ (ap (sees marks.RightParen) at.tokens ∙ parameter_no_paren x _ a from to h.0 g)
      (commas_gives (InPlace d w) IsParameter yield_parameter same_place (parameter E P d w) NoDim (λ y b k j. parameter_gives E P d w fits holds parts y b k j) comma_no_dim x xs a h i total s from to at g
      (subst (EndsList NoDim) (sym (sees_is marks.RightParen to.tokens follow)) (paren_ends_list (tail to.tokens))))

  parameters_gives : (xs : List Parameter) (a : Around) → AllByRecursion IsParameter xs → InPlace d w a
      → Complete (parameters E P d w) (yield_parameters xs a) xs Always
  unfolding parameters Paren
  parameters_gives xs a h i total s from to at g follow =
      expect_gives marks.LeftParen _ _ at g (λ t1 m1 at1 r1.
      part_gives (any_parameters E P d w) (parted (map yield_parameter xs) a) (the marks.RightParen ∷ []) Paren _ (any_parameters_gives xs a h i) at1 r1 (λ m l. headed (λ ts. sees marks.RightParen ts ≡ true) (mark marks.RightParen) _ m to (sees_same marks.RightParen) l) (λ t2 m2 at2 r2.
      expect_gives marks.RightParen [] _ at2 r2 (λ t3 m3 at3 last. gives t3 (at_end at3 last))))

  -- ---- explicit constructor invocations

  -- no explicit constructor invocation comes next
  pub record NoExplicit (ts : List Sign) : Type 0 where
    pub unopened : opening ts ≡ other
    pub unqualified : (p : Primary) (us : List Sign) → E.primary d ts ≡ Here p us → begins_super_call us ≡ true → ⊥

  explicit_none : (s : State) → NoExplicit s.tokens → explicit E P d w s ≡ Done None s
  unfolding explicit
  explicit_none s h = ap (λ o. explicit_by E P d w o s) h.unopened ∙ by_found (E.primary d s.tokens) refl
    where
      by_found : (f : Found Primary) → E.primary d s.tokens ≡ f → qualified E P d w f s ≡ Done None s
      by_found Nothing e = refl
      by_found (Here p us) e = cond_false (begins_super_call us) _ _ (by_test (begins_super_call us) refl)
        where
          by_test : (b : Bool) → begins_super_call us ≡ b → begins_super_call us ≡ false
          by_test false k = k
          by_test true k = absurd (h.unqualified p us e k)

  explicit_rest_gives : (x : Explicit) (a : Around) → AllByRecursion (IsExpr d) x.arguments → InPlace d w a
      → Complete (explicit_rest E P d w x.callee) (yield_arguments (map yield_expr x.arguments) a ++ the marks.Semicolon ∷ []) (Some x) Always
  unfolding explicit_rest
  explicit_rest_gives x a h i total s from to at g follow =
      part_gives (arguments E P d w) (yield_arguments (map yield_expr x.arguments) a) (the marks.Semicolon ∷ []) Always _ (arguments_gives E P d w fits holds parts x.arguments a h i) at g (λ m l. tt) (λ t1 m1 at1 r1.
      expect_gives marks.Semicolon [] _ at1 r1 (λ t2 m2 at2 last. gives t2 (at_end at2 last)))

  explicit_at : {total : List TypeDecl} {y : Option Explicit} {to : Stage} (o : Opening) (s : State)
      → opening s.tokens ≡ o → Gives total y to (explicit_by E P d w o s)
      → Gives total y to (explicit E P d w s)
  unfolding explicit
  explicit_at {total = total} {y = y} {to = to} o s e h = subst (λ v. Gives total y to (explicit_by E P d w v s)) (sym e) h

  super_rest_gives : (x : Explicit) (p : Primary) (sp : Span) (a : Around)
      → x.callee ≡ callees.Super (Some p) sp → AllByRecursion (IsExpr d) x.arguments → InPlace d w a
      → Complete (super_rest E P d w p) (the marks.Dot ∷ token (super sp) ∷ (yield_arguments (map yield_expr x.arguments) a ++ the marks.Semicolon ∷ [])) (Some x) Always
  unfolding super_rest
  super_rest_gives x p sp a e h i total s from to at g follow =
      expect_gives marks.Dot _ _ at g (λ t1 m1 at1 r1. super_gives sp _ _ at1 r1 (λ t2 m2 at2 r2.
      subst (λ v. Gives total (Some x) to (explicit_rest E P d w v t2)) e (explicit_rest_gives x a h i total t2 m2 to at2 r2 tt)))

  qualified_gives : (x : Explicit) (p : Primary) (sp : Span) (a : Around)
      → x.callee ≡ callees.Super (Some p) sp → IsPrimary (nested d) p
      → AllByRecursion (IsExpr d) x.arguments → InPlace d w a
      → (total : List TypeDecl) (s : State) (from to : Stage) → At total s from
      → Spells (yield_primary p a ++ (the marks.Dot ∷ token (super sp) ∷ (yield_arguments (map yield_expr x.arguments) a ++ the marks.Semicolon ∷ []))) from to
      → Gives total (Some x) to (explicit E P d w s)
  qualified_gives x p sp a e k h i total s from to at g =
      spells_split (yield_primary p a) (the marks.Dot ∷ token (super sp) ∷ (yield_arguments (map yield_expr x.arguments) a ++ the marks.Semicolon ∷ [])) from to g (λ m l r0.
      spells_token_of (mark marks.Dot) _ m to r0 (λ ts1 e1 r1. spells_token_of (super sp) _ _ to r1 (λ ts2 e2 r2. spells_token_of (mark marks.LeftParen) _ _ to r2 (λ ts3 e3 r3.
      let inside_of = primary_in (nested d) (nested_in d) p k a in
      let m_is : m.tokens ≡ mark marks.Dot ∷ super sp ∷ mark marks.LeftParen ∷ ts3 = e1 ∙ ap (λ xs. mark marks.Dot ∷ xs) (e2 ∙ ap (λ xs. super sp ∷ xs) e3) in
      let call : begins_super_call m.tokens ≡ true = ap begins_super_call m_is ∙ super_call_is sp ts3 in
      let here = holds.primary_complete d fits p a s.tokens m.tokens k i.left (reads_at E P d w fits holds parts (yield_primary p a) a total s from m inside_of at l) call in
      let opens = holds.primary_opens d fits p s.tokens m.tokens here call in
      let o = opens.0 in
      explicit_at other s o.no_invocation
      (subst (λ f. Gives total (Some x) to (qualified E P d w f s)) (sym here)
      (first_gives (begins_super_call m.tokens) _ _ call
      (then_gives (settle E P d w yield_primary (Here p m.tokens) s) _ (settle_gives E P d w fits holds parts yield_primary p a total s from m (Here p m.tokens) refl (holds.primary_sound d fits p s.tokens m.tokens here).1 inside_of i at l)
      (λ t at2. super_rest_gives x p sp a e h i total t m to at2 r0 tt))))))))

  explicit_gives : (x : Explicit) (a : Around) → IsExplicit (nested d) x → InPlace d w a
      → Complete (explicit E P d w) (yield_explicit (Some x) a) (Some x) Always
  explicit_gives x a h i total s from to at g follow =
      by_callee x.callee refl h.0 (spells_right (yield_callee x.callee a) (yield_arguments (map yield_expr x.arguments) a) (the marks.Semicolon ∷ []) g)
    where
      rest_pieces : List Piece
      rest_pieces = yield_arguments (map yield_expr x.arguments) a ++ the marks.Semicolon ∷ []

      with_callee : (c : Callee) → x.callee ≡ c → (t : State) (m : Stage) → At total t m
          → Spells (yield_arguments (map yield_expr x.arguments) a ++ the marks.Semicolon ∷ []) m to
          → Gives total (Some x) to (explicit_rest E P d w c t)
      with_callee c e t m at2 r = subst (λ v. Gives total (Some x) to (explicit_rest E P d w v t)) e (explicit_rest_gives x a h.1 i total t m to at2 r tt)

      by_callee : (c : Callee) → x.callee ≡ c → IsCallee (nested d) c
          → Spells (yield_callee c a ++ (yield_arguments (map yield_expr x.arguments) a ++ the marks.Semicolon ∷ [])) from to
          → Gives total (Some x) to (explicit E P d w s)
      by_callee (callees.This sp) e k r =
          spells_token_of (this sp) _ from to r (λ ts e1 r1. spells_token_of (mark marks.LeftParen) _ _ to r1 (λ us e2 r2.
          explicit_at (with_this sp) s (ap opening (at.tokens ∙ e1 ∙ ap (λ xs. this sp ∷ xs) e2) ∙ this_opening sp us) (with_callee (callees.This sp) e (next s) _ (at_next (this sp) ts at e1) r1)))
      by_callee (callees.Super None sp) e k r =
          spells_token_of (super sp) _ from to r (λ ts e1 r1. spells_token_of (mark marks.LeftParen) _ _ to r1 (λ us e2 r2.
          explicit_at (with_super sp) s (ap opening (at.tokens ∙ e1 ∙ ap (λ xs. super sp ∷ xs) e2) ∙ super_opening sp us) (with_callee (callees.Super None sp) e (next s) _ (at_next (super sp) ts at e1) r1)))
      by_callee (callees.Super (Some p) sp) e k r = qualified_gives x p sp a e k h.1 i total s from to at (spells_right (yield_primary p a) (the marks.Dot ∷ token (super sp) ∷ []) _ r)

  no_expr_no_explicit : (ts : List Sign) → begins_expr ts ≡ false → NoExplicit ts
  no_expr_no_explicit ts h = record { unopened = no_expr_unopened ts h; unqualified = λ p us e b. let o = (holds.primary_opens d fits p ts us e b).0 in true_false _ o.begins h }

  local_no_explicit : (ts : List Sign) → begins_local ts ≡ true → NoExplicit ts
  local_no_explicit ts h = record { unopened = local_unopened ts h; unqualified = λ p us e b. true_false _ h (expr_no_local E P d w fits holds parts ts (holds.primary_opens d fits p ts us e b).0) }

  as_tokens : (F : List Sign → Type 0) {total : List TypeDecl} {s : State} {p : Stage} → At total s p → F p.tokens → F s.tokens
  as_tokens F at h = subst F (sym at.tokens) h

  statements_no_explicit : (xs : List BlockStatement) (a : Around) (total : List TypeDecl) (s : State) (p q : Stage)
      → IsBlockStatements (nested d) (IsStmt d) xs → InPlace d w a → At total s p
      → Spells (all_yield (map yield_block_statement xs) a ++ the marks.RightBrace ∷ []) p q → NoExplicit s.tokens
  statements_no_explicit [] a total s p q h i at g = as_tokens NoExplicit at (headed NoExplicit (mark marks.RightBrace) [] p q (λ ts. no_expr_no_explicit (mark marks.RightBrace ∷ ts) refl) g)
  statements_no_explicit (x ∷ xs) a total s p q h i at g =
      spells_split ((yield_block_statement x).yields a) _ p q (spells_right ((yield_block_statement x).yields a) _ (the marks.RightBrace ∷ []) g) (λ m l r.
      spells_split (all_yield (map yield_block_statement xs) ((yield_block_statement x).leaves a)) (the marks.RightBrace ∷ []) m q r (λ m2 l2 r2.
      by_form h.0 m l (behind_statements E P d w fits holds parts xs _ m m2 h.1 (leaves_in_place E P d w fits holds parts x a h.0 i) l2 (headed (EndsBlock E P d w fits holds parts) (mark marks.RightBrace) [] m2 q (right_brace_ends E P d w fits holds parts) r2))))
    where
      by_form : IsBlockStatement (nested d) (IsStmt d) x → (m : Stage)
          → Spells ((yield_block_statement x).yields a) p m → EndsStmt any m.tokens
          → NoExplicit s.tokens
      by_form (a_local_class brace e) m l f =
          let c = class_begins E P d w fits holds parts (record { brace = brace; place = places.Local; created = []; around = a }) [] p m refl (spells_as (ap (λ y. (yield_block_statement y).yields a) e ∙ yield_block_statement-LocalClass brace a) l) in
          no_expr_no_explicit s.tokens (class_no_expr s.tokens (ap begins_class at.tokens ∙ c.0))
      by_form (a_local v e k) m l f =
          let o = local_begins E P d w fits holds parts v a _ p m k (spells_as (ap (λ y. (yield_block_statement y).yields a) e ∙ yield_block_statement-Local v a) l) in
          local_no_explicit s.tokens (ap begins_local at.tokens ∙ o.is_local)
      by_form (a_statement y e k) m l f =
          let one = parts.stmt_complete w a any y i k total s p m at (spells_as (ap (λ z. (yield_block_statement z).yields a) e ∙ yield_block_statement-Statement y a) l) f in
          let opens = parts.stmt_opens w s one.end y one.is in
          record { unopened = opens.no_invocation; unqualified = λ pr us e2 b. parts.stmt_alone w s one.end y d fits pr us one.is e2 b }

  -- ---- members

  method_body_gives : (h : TypeHead) (o : Option Block) (a : Around)
      → IsMethodBody (nested d) (IsStmt d) h o → InPlace d w a
      → Complete (method_body E P d w h) (yield_method_body o a) o Always
  unfolding method_body
  method_body_gives h None a k i total s from to at g follow =
      first_gives (is_interface h || sees marks.Semicolon s.tokens) _ _ (or_true (is_interface h) _ (sees_next marks.Semicolon [] at g))
      (expect_gives marks.Semicolon [] _ at g (λ t m at2 last. gives t (at_end at2 last)))
    where
      or_true : (b c : Bool) → c ≡ true → (b || c) ≡ true
      or_true true c e = refl
      or_true false c e = e
  method_body_gives h (Some b) a k i total s from to at g follow =
      second_gives (is_interface h || sees marks.Semicolon s.tokens) _ _ (or_both (is_interface h) _ (no_interface h k).0 (ap (sees marks.Semicolon) at.tokens ∙ block_headed (λ ts. sees marks.Semicolon ts ≡ false) b a from to no_semicolon_at g))
      (last_gives (block E P d w) (yield_block b a) Always _ (block_gives E P d w fits holds parts b a (no_interface h k).1 i) at g tt (λ t at2. gives t at2))
    where
      no_some : (x : Block) → Some x ≡ None → ⊥
      no_some x e = cc

      no_interface : (x : TypeHead) → IsMethodBody (nested d) (IsStmt d) x (Some b) → (is_interface x ≡ false) × IsBlock (nested d) (IsStmt d) b
      no_interface (heads.Interface j) l = absurd (no_some b l)
      no_interface (heads.Class c) l = (refl, l)
      no_interface heads.Anonymous l = (refl, l)

  method_gives : (h : TypeHead) (m : Method) (a : Around) → IsMethod (nested d) (IsStmt d) h m → InPlace d w a
      → Complete (method E P d w h m.modifiers m.result) (token (word m.name) ∷ (yield_parameters m.parameters a ++ yield_dims m.dims ++ yield_clause marks.Throws m.throws ++ yield_method_body m.body a)) (members.Method m) Always
  unfolding method
  method_gives h m a k i total s from to at g follow =
      word_gives m.name _ _ at g (λ t1 m1 at1 r1.
      let r1b = spells_right (yield_parameters m.parameters a) (yield_dims m.dims) _ (spells_right (yield_parameters m.parameters a ++ yield_dims m.dims) (yield_clause marks.Throws m.throws) (yield_method_body m.body a) r1) in
      part_gives (parameters E P d w) (yield_parameters m.parameters a) _ Always _ (parameters_gives m.parameters a k.1 i) at1 r1b (λ n l. tt) (λ t2 m2 at2 r2.
      part_gives dims (yield_dims m.dims) _ NoDim _ (dims_gives m.dims) at2 r2
      (λ n l. clause_no_dim m.throws _ n to (λ v. body_headed NoDim m.body a n to (λ b ts. (brace_ends_throws b ts).1) (λ ts. (semicolon_ends_throws ts).1) v) l) (λ t3 m3 at3 r3.
      part_gives (clause marks.Throws) (yield_clause marks.Throws m.throws) _ (EndsClause marks.Throws) _ (clause_gives marks.Throws m.throws k.2) at3 r3
      (λ n l. body_headed (EndsClause marks.Throws) m.body a n to (λ b ts. (brace_ends_throws b ts).0) (λ ts. (semicolon_ends_throws ts).0) l) (λ t4 m4 at4 r4.
      last_gives (method_body E P d w h) (yield_method_body m.body a) Always _ (method_body_gives h m.body a k.3 i) at4 r4 tt (λ t5 at5. gives t5 at5)))))

  explicit_option_gives : {B : Type 0} {total : List TypeDecl} {y : B} {s : State} {p q end : Stage} (o : Option Explicit) (ss : List BlockStatement) (a : Around) (f : Option Explicit → Parser B)
      → IfSome o (IsExplicit (nested d)) → IsBlockStatements (nested d) (IsStmt d) ss → InPlace d w a → At total s p
      → Spells (yield_explicit o a ++ (all_yield (map yield_block_statement ss) a ++ the marks.RightBrace ∷ [])) p q
      → ((t : State) (m : Stage) → At total t m → Spells (all_yield (map yield_block_statement ss) a ++ the marks.RightBrace ∷ []) m q → Gives total y end (f o t))
      → Gives total y end (and_then (explicit E P d w s) f)
  explicit_option_gives {total = total} {y = y} {s = s} {p = p} {q = q} {end = end} None ss a f h k i at g c =
      subst (λ o. Gives total y end (and_then o f)) (sym (explicit_none s (statements_no_explicit ss a total s p q k i at g))) (c s p at g)
  explicit_option_gives (Some x) ss a f h k i at g c =
      part_gives (explicit E P d w) (yield_explicit (Some x) a) _ Always f (explicit_gives x a h i) at g (λ n l. tt) c

  constructor_gives : (h : TypeHead) (c : Constructor) (a : Around) → IsConstructor (nested d) (IsStmt d) h c → InPlace d w a
      → Complete (constructor E P d w h c.modifiers) (token (word c.name) ∷ (yield_parameters c.parameters a ++ yield_clause marks.Throws c.throws
      ++ token (left_brace c.brace) ∷ (yield_explicit c.explicit a ++ all_yield (map yield_block_statement c.statements) a ++ the marks.RightBrace ∷ []))) (members.Constructor c) Always
  unfolding constructor constructor_body
  constructor_gives h c a k i total s from to at g follow =
      word_gives c.name _ _ at g (λ t1 m1 at1 r1. first_gives (has_name h c.name) _ _ (name_has h c.name k.0)
      (part_gives (parameters E P d w) (yield_parameters c.parameters a) _ Always _ (parameters_gives c.parameters a k.1 i) at1 (spells_right (yield_parameters c.parameters a) (yield_clause marks.Throws c.throws) _ r1) (λ n l. tt) (λ t2 m2 at2 r2.
      part_gives (clause marks.Throws) (yield_clause marks.Throws c.throws) _ (EndsClause marks.Throws) _ (clause_gives marks.Throws c.throws k.2) at2 r2
      (λ n l. headed (EndsClause marks.Throws) (left_brace c.brace) _ n to (λ ts. (brace_ends_throws c.brace ts).0) l) (λ t3 m3 at3 r3.
      brace_gives c.brace _ _ at3 r3 (λ t4 m4 at4 r4.
      explicit_option_gives c.explicit c.statements a _ k.3 k.4 i at4 (spells_right (yield_explicit c.explicit a) (all_yield (map yield_block_statement c.statements) a) (the marks.RightBrace ∷ []) r4) (λ t5 m5 at5 r5.
      part_gives (list (any_block_statement E P d w)) (all_yield (map yield_block_statement c.statements) a) (the marks.RightBrace ∷ []) (EndsBlock E P d w fits holds parts) _ (statements_gives E P d w fits holds parts c.statements a k.4 i) at5 r5
      (λ n l. headed (EndsBlock E P d w fits holds parts) (mark marks.RightBrace) [] n to (right_brace_ends E P d w fits holds parts) l) (λ t6 m6 at6 r6.
      expect_gives marks.RightBrace [] _ at6 r6 (λ t7 m7 at7 last. gives t7 (at_end at7 last)))))))))
    where
      name_has : (x : TypeHead) (j : Ident) → HasName x j → has_name x j ≡ true
      name_has (heads.Class v) j e = (bytes_eq-Decides j.name v.name.name).1 e
      name_has (heads.Interface v) j e = absurd e
      name_has heads.Anonymous j e = absurd e

  field_gives : (f : Fields) (a : Around) → IsVariables (nested d) f.variables → InPlace d w a
      → Complete (field E P d w f.modifiers (results.Of f.of)) (yield_variables f.variables a ++ the marks.Semicolon ∷ []) (members.Field f) Always
  unfolding field
  field_gives f a h i total s from to at g follow =
      part_gives (variables E P d w) (yield_variables f.variables a) (the marks.Semicolon ∷ []) EndsVariables _ (variables_gives E P d w fits holds parts f.variables a h i) at g
      (λ n l. headed EndsVariables (mark marks.Semicolon) [] n to (sees_same marks.Semicolon) l) (λ t m at2 r.
      expect_gives marks.Semicolon [] _ at2 r (λ t2 m2 at3 last. gives t2 (at_end at3 last)))

  static_is_eaten : (b : Bool) → yield_static b ≡ eaten_yield marks.Static b
  static_is_eaten true = refl
  static_is_eaten false = refl

  initializer_gives : (h : TypeHead) (b : Bool) (x : Block) (a : Around) → MayInitialize h → IsBlock (nested d) (IsStmt d) x → InPlace d w a
      → Complete (initializer_block E P d w h) (yield_static b ++ yield_block x a) (members.Initializer b x) Always
  unfolding initializer_block
  initializer_gives h b x a k l i total s from to at g follow =
      part_gives (eat marks.Static) (eaten_yield marks.Static b) (yield_block x a) (λ ts. b ≡ false → sees marks.Static ts ≡ false) _ (eat_gives marks.Static b) at (spells_as (ap (λ ps. ps ++ yield_block x a) (static_is_eaten b)) g)
      (λ n r e. block_headed (λ ts. sees marks.Static ts ≡ false) x a n to brace_no_static r) (λ t m at2 r.
      last_gives (block E P d w) (yield_block x a) Always _ (block_gives E P d w fits holds parts x a l i) at2 r tt (λ t2 at3. second_gives (is_interface h) _ _ (class_only h k) (gives t2 at3)))
    where
      brace_no_static : (n : ℕ) (ts : List Sign) → sees marks.Static (left_brace n ∷ ts) ≡ false
      brace_no_static n ts = sees_brace_not n ts

      class_only : (x2 : TypeHead) → MayInitialize x2 → is_interface x2 ≡ false
      class_only (heads.Interface j) e = absurd e
      class_only (heads.Class c) e = refl
      class_only heads.Anonymous e = refl

  -- a member with modifiers
  modified_gives : (h : TypeHead) (ms : List Modifier) (qs : List Piece) (x : Member) (s : State) (total : List TypeDecl) (from to : Stage)
      → ((m : Stage) → Spells qs m to → BehindModifiers m.tokens × NoType m.tokens) → At total s from → Spells (yield_modifiers ms ++ qs) from to
      → ((t : State) (m : Stage) → At total t m → Spells qs m to → Gives total x to (declared E P d w h ms t))
      → Gives total (Some x) to (any_member E P d w h s)
  unfolding any_member member
  modified_gives h ms qs x s total from to f at g k =
      let opens = modifiers_open ms qs from to (λ m l. (f m l).0) g in
      let no_type = modifiers_skip ms qs from to (λ m l. (f m l).0) (λ ts. (sees marks.Class ts || sees marks.Interface ts) ≡ false) (λ m l. (f m l).1) g in
      unless_gives (sees marks.RightBrace) (member E P d w h) x s (ap (sees marks.RightBrace) at.tokens ∙ opens.no_end)
      (second_gives (sees marks.Semicolon s.tokens) _ _ (ap (sees marks.Semicolon) at.tokens ∙ opens.no_semicolon)
      (second_gives (begins_initializer s.tokens) _ _ (ap begins_initializer at.tokens ∙ opens.no_initializer)
      (second_gives (begins_type s.tokens) _ _ (ap begins_type at.tokens ∙ no_type)
      (part_gives modifiers (yield_modifiers ms) qs NoModifier _ (modifiers_gives ms) at g (λ m l. (f m l).0.none) k))))

  method_word : (m : Method) (a : Around) (qs : List Piece) (p q : Stage)
      → Spells (token (word m.name) ∷ (yield_parameters m.parameters a ++ qs)) p q
      → begins_parameters p.tokens ≡ true
  method_word m a qs p q g =
      spells_token_of (word m.name) _ p q g (λ ts e r. ap begins_parameters e ∙ headed (λ us. sees marks.LeftParen us ≡ true) (mark marks.LeftParen) _ _ q (sees_same marks.LeftParen) r)

  void_gives : (h : TypeHead) (m : Method) (a : Around) → m.result ≡ results.Void → IsMethod (nested d) (IsStmt d) h m → InPlace d w a
      → Complete (declared E P d w h m.modifiers) (the marks.Void ∷ token (word m.name) ∷ (yield_parameters m.parameters a ++ yield_dims m.dims ++ yield_clause marks.Throws m.throws ++ yield_method_body m.body a)) (members.Method m) Always
  unfolding declared void_method
  void_gives h m a e k i total s from to at g follow =
      first_gives (sees marks.Void s.tokens) _ _ (sees_next marks.Void _ at g)
      (expect_gives marks.Void _ _ at g (λ t m1 at1 r1. subst (λ v. Gives total (members.Method m) to (method E P d w h m.modifiers v t)) e (method_gives h m a k i total t m1 to at1 r1 tt)))

  of_gives : (h : TypeHead) (m : Method) (ty : TypeUse) (a : Around) → m.result ≡ results.Of ty
      → IsType ty → IsMethod (nested d) (IsStmt d) h m → InPlace d w a
      → Complete (declared E P d w h m.modifiers) (yield_type ty ++ (token (word m.name) ∷ (yield_parameters m.parameters a ++ yield_dims m.dims ++ yield_clause marks.Throws m.throws ++ yield_method_body m.body a))) (members.Method m) Always
  unfolding declared typed
  of_gives h m ty a e ok k i total s from to at g follow =
      spells_split (yield_type ty) _ from to g (λ m0 l0 r0.
      let no_call = type_no_call ty from m0 ok l0 (headed WordNext (word m.name) _ m0 to (λ ts. refl) r0) in
      second_gives (sees marks.Void s.tokens) _ _ (ap (sees marks.Void) at.tokens ∙ (type_behind ty _ from to ok g).1.1)
      (second_gives (begins_parameters s.tokens) _ _ (ap begins_parameters at.tokens ∙ no_call)
      (part_gives type_use (yield_type ty) _ WordNext _ (type_gives ty ok) at g (λ n l. headed WordNext (word m.name) _ n to (λ ts. refl) l) (λ t m1 at1 r1.
      let r1b = spells_as (ap (λ ps. token (word m.name) ∷ ps) (append_assoc (yield_parameters m.parameters a ++ yield_dims m.dims) (yield_clause marks.Throws m.throws) (yield_method_body m.body a) ∙ append_assoc (yield_parameters m.parameters a) (yield_dims m.dims) _)) r1 in
      first_gives (begins_parameters t.tokens) _ _ (ap begins_parameters at1.tokens ∙ method_word m a _ m1 to r1b)
      (subst (λ v. Gives total (members.Method m) to (method E P d w h m.modifiers v t)) e (method_gives h m a k i total t m1 to at1 r1 tt))))))

  constructor_declared : (h : TypeHead) (c : Constructor) (a : Around) → IsConstructor (nested d) (IsStmt d) h c → InPlace d w a
      → Complete (declared E P d w h c.modifiers) (token (word c.name) ∷ (yield_parameters c.parameters a ++ yield_clause marks.Throws c.throws
      ++ token (left_brace c.brace) ∷ (yield_explicit c.explicit a ++ all_yield (map yield_block_statement c.statements) a ++ the marks.RightBrace ∷ []))) (members.Constructor c) Always
  unfolding declared
  constructor_declared h c a k i total s from to at g follow =
      spells_token_of (word c.name) _ from to g (λ ts e r.
      second_gives (sees marks.Void s.tokens) _ _ (ap (sees marks.Void) (at.tokens ∙ e) ∙ (word_no_type c.name ts).1)
      (first_gives (begins_parameters s.tokens) _ _ (ap begins_parameters (at.tokens ∙ e) ∙ headed (λ us. sees marks.LeftParen us ≡ true) (mark marks.LeftParen) _ _ to (sees_same marks.LeftParen) (spells_right (yield_parameters c.parameters a) (yield_clause marks.Throws c.throws) _ r))
      (constructor_gives h c a k i total s from to at g tt)))

  field_declared : (h : TypeHead) (f : Fields) (a : Around) → IsType f.of → IsVariables (nested d) f.variables → InPlace d w a
      → Complete (declared E P d w h f.modifiers) (yield_type f.of ++ (yield_variables f.variables a ++ the marks.Semicolon ∷ [])) (members.Field f) Always
  unfolding declared typed
  field_declared h f a ok k i total s from to at g follow =
      spells_split (yield_type f.of) _ from to g (λ m0 l0 r0.
      let vars_word : WordNext m0.tokens = spells_split (yield_variables f.variables a) (the marks.Semicolon ∷ []) m0 to r0 (λ n l2 r2. variables_headed E P d w fits holds parts f.variables a m0 n k l2) in
      second_gives (sees marks.Void s.tokens) _ _ (ap (sees marks.Void) at.tokens ∙ (type_behind f.of _ from to ok g).1.1)
      (second_gives (begins_parameters s.tokens) _ _ (ap begins_parameters at.tokens ∙ type_no_call f.of from m0 ok l0 vars_word)
      (then_gives (type_use s) _ (type_gives f.of ok total s from m0 at l0 vars_word) (λ t at1.
      second_gives (begins_parameters t.tokens) _ _ (ap begins_parameters at1.tokens ∙ variables_no_call f.variables a [] m0 to k.0 r0)
      (field_gives f a k i total t m0 to at1 r0 tt)))))

  semicolon_member : (h : TypeHead) (total : List TypeDecl) (s : State) (p q : Stage) → At total s p
      → Spells (the marks.Semicolon ∷ []) p q → Gives total (Some members.Empty) q (any_member E P d w h s)
  unfolding any_member member
  semicolon_member h total s p q at g =
      unless_gives (sees marks.RightBrace) (member E P d w h) members.Empty s (ap (sees marks.RightBrace) at.tokens ∙ headed (λ ts. sees marks.RightBrace ts ≡ false) (mark marks.Semicolon) [] p q semicolon_no_end g)
      (first_gives (sees marks.Semicolon s.tokens) _ _ (sees_next marks.Semicolon [] at g) (expect_gives marks.Semicolon [] _ at g (λ t m at2 last. gives t (at_end at2 last))))

  initializer_member : (h : TypeHead) (b : Bool) (x : Block) (a : Around) → MayInitialize h → IsBlock (nested d) (IsStmt d) x → InPlace d w a
      → (total : List TypeDecl) (s : State) (from to : Stage) → At total s from
      → Spells (yield_static b ++ yield_block x a) from to
      → Gives total (Some (members.Initializer b x)) to (any_member E P d w h s)
  unfolding any_member member
  initializer_member h b x a k l i total s from to at g =
      let opens = initializer_opens b x a from to g in
      unless_gives (sees marks.RightBrace) (member E P d w h) (members.Initializer b x) s (ap (sees marks.RightBrace) at.tokens ∙ opens.0)
      (second_gives (sees marks.Semicolon s.tokens) _ _ (ap (sees marks.Semicolon) at.tokens ∙ opens.1)
      (first_gives (begins_initializer s.tokens) _ _ (ap begins_initializer at.tokens ∙ opens.2) (initializer_gives h b x a k l i total s from to at g tt)))

  type_member : (h : TypeHead) (brace : ℕ) (a : Around) → InPlace d w a → (total : List TypeDecl) (s : State) (from to : Stage) → At total s from
      → Spells (hole (record { brace = brace; place = places.Member; created = []; around = a }) ∷ []) from to
      → Gives total (Some (members.Type brace)) to (any_member E P d w h s)
  unfolding any_member member member_type
  type_member h brace a i total s from to at g =
      let k : Hole = record { brace = brace; place = places.Member; created = []; around = a } in
      let opens = type_begins k [] from to member_not g in
      let o = opens.0 in
      unless_gives (sees marks.RightBrace) (member E P d w h) (members.Type brace) s (ap (sees marks.RightBrace) at.tokens ∙ o.no_end)
      (second_gives (sees marks.Semicolon s.tokens) _ _ (ap (sees marks.Semicolon) at.tokens ∙ o.no_semicolon)
      (second_gives (begins_initializer s.tokens) _ _ (ap begins_initializer at.tokens ∙ o.no_initializer)
      (first_gives (begins_type s.tokens) _ _ (ap begins_type at.tokens ∙ opens.1)
      (last_gives (P.type d places.Member w) (hole k ∷ []) Always _ (type_gives_at E P d w fits holds parts k d places.Member w i.left refl i.within (omega arith)) at g tt (λ t at2. gives t at2)))))

  method_right : (m : Method) (a : Around) (rs : List Piece) {p q : Stage}
      → Spells (yield_modifiers m.modifiers ++ rs ++ token (word m.name) ∷ (yield_parameters m.parameters a ++ yield_dims m.dims ++ yield_clause marks.Throws m.throws ++ yield_method_body m.body a)) p q
      → Spells (yield_modifiers m.modifiers ++ (rs ++ (token (word m.name) ∷ (yield_parameters m.parameters a ++ yield_dims m.dims ++ yield_clause marks.Throws m.throws ++ yield_method_body m.body a)))) p q
  method_right m a rs g = spells_right (yield_modifiers m.modifiers) rs _ g

  pub member_gives : (h : TypeHead) (x : Member) (a : Around) → IsMember (nested d) (IsStmt d) h x
      → InPlace d w a → Complete (any_member E P d w h) (yield_member x a) (Some x) Always
  member_gives h members.Empty a k i total s from to at g follow = semicolon_member h total s from to at g
  member_gives h (members.Initializer b x) a k i total s from to at g follow = initializer_member h b x a k.0 k.1 i total s from to at g
  member_gives h (members.Type brace) a k i total s from to at g follow = type_member h brace a i total s from to at g
  member_gives h (members.Method m) a k i total s from to at g follow = by_result m.result refl k.0
    where
      rest : List Piece
      rest = token (word m.name) ∷ (yield_parameters m.parameters a ++ yield_dims m.dims ++ yield_clause marks.Throws m.throws ++ yield_method_body m.body a)

      by_result : (r : ResultType) → m.result ≡ r → IsResult r → Gives total (Some (members.Method m)) to (any_member E P d w h s)
      by_result results.Void e ok =
          let g1 = method_right m a (yield_result m.result) g in
          let g2 = spells_as (ap (λ v. yield_modifiers m.modifiers ++ (yield_result v ++ rest)) e) g1 in
          modified_gives h m.modifiers (the marks.Void ∷ rest) (members.Method m) s total from to (λ n l. (headed BehindModifiers (mark marks.Void) _ n to void_behind l, headed NoType (mark marks.Void) _ n to void_no_type l)) at g2
          (λ t n at2 r. void_gives h m a e k i total t n to at2 r tt)
      by_result (results.Of ty) e ok =
          let g1 = method_right m a (yield_result m.result) g in
          let g2 = spells_as (ap (λ v. yield_modifiers m.modifiers ++ (yield_result v ++ rest)) e) g1 in
          modified_gives h m.modifiers (yield_type ty ++ rest) (members.Method m) s total from to (λ n l. let b = type_behind ty _ n to ok l in (b.0, b.1.0)) at g2
          (λ t n at2 r. of_gives h m ty a e ok k i total t n to at2 r tt)
  member_gives h (members.Constructor c) a k i total s from to at g follow =
      modified_gives h c.modifiers _ (members.Constructor c) s total from to (λ m l. (headed BehindModifiers (word c.name) _ m to (word_behind c.name) l, headed NoType (word c.name) _ m to (λ ts. (word_no_type c.name ts).0) l)) at g
      (λ t m at2 r. constructor_declared h c a k i total t m to at2 r tt)
  member_gives h (members.Field f) a k i total s from to at g follow =
      let g2 = spells_right (yield_modifiers f.modifiers) (yield_type f.of) _ (spells_right (yield_modifiers f.modifiers ++ yield_type f.of) (yield_variables f.variables a) (the marks.Semicolon ∷ []) g) in
      modified_gives h f.modifiers _ (members.Field f) s total from to (λ m l. let b = type_behind f.of _ m to k.0 l in (b.0, b.1.0)) at g2
      (λ t m at2 r. field_declared h f a k.0 k.1 i total t m to at2 r tt)
