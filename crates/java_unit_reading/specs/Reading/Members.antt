-- How types and their members are read (JLS 8, 9).
use Rattle.std.specs.Prelude.{ℕ, Bool, true, false, ◌&&◌, ◌||◌, cond, List, [], ◌∷◌, ◌++◌, length, Option, Some, None, slice_set}
use Rattle.std.specs.Str.{bytes_eq}
use Rattle.java_tree.specs.declared.mark.Mark.TheVariants as marks
use Rattle.java_tree.specs.declared.names.Ident.{Ident}
use Rattle.java_tree.specs.declared.names.Modifier.{Modifier}
use Rattle.java_tree.specs.declared.expr.Primary.{Primary}
use Rattle.java_tree.specs.declared.stmt.Block.{Block}
use Rattle.java_tree.specs.declared.stmt.Parameter.{Parameter}
use Rattle.java_tree.specs.declared.token.Span.{Span}
use Rattle.java_tree.specs.declared.unit.Callee.{Callee}
use Rattle.java_tree.specs.declared.unit.Callee.TheVariants as callees
use Rattle.java_tree.specs.declared.unit.Explicit.{Explicit}
use Rattle.java_tree.specs.declared.unit.Member.{Member}
use Rattle.java_tree.specs.declared.unit.Member.TheVariants as members
use Rattle.java_tree.specs.declared.unit.ResultType.{ResultType}
use Rattle.java_tree.specs.declared.unit.ResultType.TheVariants as results
use Rattle.java_tree.specs.declared.unit.TypeDecl.{TypeDecl}
use Rattle.java_tree.specs.declared.unit.TypeHead.{TypeHead}
use Rattle.java_tree.specs.declared.unit.TypeHead.TheVariants as heads
use Rattle.java_tree.specs.declared.unit.TypePlace.{TypePlace}
use Rattle.java_tree.specs.declared.unit.TypePlace.TheVariants as places
use Rattle.java_model.specs.Grammar.Signs.{Sign, this, super}
use Rattle.java_model.specs.Grammar.YieldExpr.{yield_primary}
use Rattle.java_unit_reading.specs.Reading.Steps.{state, Outcome, Done, Fail, Parser, and_then, ◌>>=◌, ◌>>◌, pure, refuse, choose, sees, sees_brace, tail, next, expect, eat, brace, identifier, introduced, list, list_from, unless}
use Rattle.java_unit_reading.specs.Reading.Words.{is_word, name, clause, dims, type_use, modifiers, skip_modifiers}
use Rattle.java_unit_reading.specs.Reading.Nested.{Exprs, Found, Here, Nothing, Parts, settle, arguments}
use Rattle.java_unit_reading.specs.Reading.Statements.{any_block_statement, block, parameter, variables}

-- 'class' Id ['extends' Name] ['implements' Names], behind modifiers (JLS 8.1)
unfoldable pub class_head : List Modifier → Parser TypeHead
class_head ms =
    expect marks.Class >> (identifier >>= λ i. introduced marks.Extends name >>= λ e. clause marks.Implements >>= λ ns.
    pure (heads.Class (record { modifiers = ms; name = i; extends = e; implements = ns })))

-- 'interface' Id ['extends' Names], behind modifiers (JLS 9.1)
unfoldable pub interface_head : List Modifier → Parser TypeHead
interface_head ms =
    expect marks.Interface >> (identifier >>= λ i. clause marks.Extends >>= λ ns.
    pure (heads.Interface (record { modifiers = ms; name = i; extends = ns })))

-- in a block a class alone is declared (JLS 14.3)
abbrev pub named_head : TypePlace → List Modifier → Parser TypeHead
named_head places.Local ms = class_head ms
named_head _ ms = choose (sees marks.Class) (class_head ms) (interface_head ms)

-- what stands before the body of a type
unfoldable pub head : TypePlace → Parser TypeHead
head places.Anonymous = pure heads.Anonymous
head place = modifiers >>= named_head place

-- Looking ahead: whether modifiers and `class` or `interface` come next.
abbrev pub begins_type : List Sign → Bool
begins_type ts = let more = skip_modifiers ts in sees marks.Class more || sees marks.Interface more

-- Looking ahead: whether Id '(' comes next.
abbrev pub begins_parameters : List Sign → Bool
begins_parameters ts = is_word ts && sees marks.LeftParen (tail ts)

-- an interface has no initializer, and its methods no body (JLS 9.1.3, 9.4)
abbrev pub is_interface : TypeHead → Bool
is_interface (heads.Interface i) = true
is_interface _ = false

-- a class alone has constructors, and they have its name (JLS 8.8)
abbrev pub has_name : TypeHead → Ident → Bool
has_name (heads.Class c) i = bytes_eq i.name c.name.name
has_name _ i = false

-- Looking ahead: whether '{', or 'static' '{' comes next (JLS 8.6, 8.7).
abbrev pub begins_initializer : List Sign → Bool
begins_initializer ts = sees_brace ts || (sees marks.Static ts && sees_brace (tail ts))

-- how an explicit constructor invocation begins, where two tokens show it, or that a primary expression
-- may stand before its `super` (JLS 8.8.5.1)
pub data Opening : Type 0 where
  with_this : Span → Opening
  with_super : Span → Opening
  other : Opening

abbrev pub opening : List Sign → Opening
opening (this s ∷ ts) = cond (sees marks.LeftParen ts) (with_this s) other
opening (super s ∷ ts) = cond (sees marks.LeftParen ts) (with_super s) other
opening _ = other

-- `super`, where it stands
abbrev pub super_in : List TypeDecl → List Sign → Outcome Span
super_in types (super s ∷ ts) = Done s (state types ts)
super_in types _ = Fail

unfoldable pub super_word : Parser Span
super_word s = super_in s.types s.tokens

abbrev pub sees_super : List Sign → Bool
sees_super (super s ∷ ts) = true
sees_super _ = false

-- '.' 'super' '(', behind which the arguments of an explicit constructor invocation stand (JLS 8.8.5.1)
abbrev pub begins_super_call : List Sign → Bool
begins_super_call ts = sees marks.Dot ts && (sees_super (tail ts) && sees marks.LeftParen (tail (tail ts)))

module _ (E : Exprs) (P : Parts) (d : ℕ) (w : Option ℕ) where
  unfoldable pub comma_parameter : Parser (Option Parameter)
  comma_parameter = introduced marks.Comma (parameter E P d w)

  unfoldable pub any_parameters : Parser (List Parameter)
  any_parameters = choose (sees marks.RightParen) (pure []) (parameter E P d w >>= λ p. list_from comma_parameter (p ∷ []))

  -- '(' [Param {',' Param}] ')' (JLS 8.4.1)
  unfoldable pub parameters : Parser (List Parameter)
  parameters = expect marks.LeftParen >> (any_parameters >>= λ ps. expect marks.RightParen >> pure ps)

  -- the arguments of an explicit constructor invocation, and its `;`
  unfoldable pub explicit_rest : Callee → Parser (Option Explicit)
  explicit_rest c = arguments E P d w >>= λ xs. expect marks.Semicolon >> pure (Some (record { callee = c; arguments = xs }))

  -- '.' 'super' and the rest, behind a primary expression
  unfoldable pub super_rest : Primary → Parser (Option Explicit)
  super_rest p = expect marks.Dot >> (super_word >>= λ s. explicit_rest (callees.Super (Some p) s))

  -- a primary expression that was found, if `.super(` follows it
  abbrev pub qualified : Found Primary → Parser (Option Explicit)
  qualified (Here p us) = λ s. cond (begins_super_call us) (and_then (settle E P d w yield_primary (Here p us) s) super_rest) (Done None s)
  qualified Nothing = pure None

  abbrev pub explicit_by : Opening → Parser (Option Explicit)
  explicit_by (with_this s) = λ st. explicit_rest (callees.This s) (next st)
  explicit_by (with_super s) = λ st. explicit_rest (callees.Super None s) (next st)
  explicit_by other = λ st. qualified (E.primary d st.tokens) st

  -- [Explicit] (JLS 8.8.5.1)
  unfoldable pub explicit : Parser (Option Explicit)
  explicit s = explicit_by (opening s.tokens) s

  -- Block | ';' (JLS 8.4.5, 9.4)
  unfoldable pub method_body : TypeHead → Parser (Option Block)
  method_body h =
      choose (λ ts. is_interface h || sees marks.Semicolon ts) (expect marks.Semicolon >> pure None) (block E P d w >>= λ b. pure (Some b))

  -- Id '(' [Params] ')' Dims ['throws' Names] (Block | ';'), behind modifiers and the result (JLS 8.4)
  unfoldable pub method : TypeHead → List Modifier → ResultType → Parser Member
  method h ms r =
      identifier >>= λ i. parameters >>= λ ps. dims >>= λ n. clause marks.Throws >>= λ ts. method_body h >>= λ b.
      pure (members.Method (record { modifiers = ms; result = r; name = i; parameters = ps; dims = n; throws = ts; body = b }))

  -- '{' [Explicit] {BlockSt} '}' behind the rest of a constructor (JLS 8.8.5)
  unfoldable pub constructor_body : List Modifier → Ident → List Parameter → List (List Ident) → Parser Member
  constructor_body ms i ps ts =
      brace >>= λ at. explicit >>= λ x. list (any_block_statement E P d w) >>= λ ss. expect marks.RightBrace
      >> pure (members.Constructor (record {
        modifiers = ms;
        name = i;
        parameters = ps;
        throws = ts;
        brace = at;
        explicit = x;
        statements = ss;
      }))

  -- Ctor, behind modifiers (JLS 8.8)
  unfoldable pub constructor : TypeHead → List Modifier → Parser Member
  constructor h ms =
      identifier >>= λ i. λ s.
      cond (has_name h i) (and_then (parameters s) (λ ps. clause marks.Throws >>= λ ts. constructor_body ms i ps ts)) Fail

  -- Vars ';', behind modifiers and a type (JLS 8.3, 9.3)
  unfoldable pub field : List Modifier → (t : ResultType) → Parser Member
  field ms (results.Of t) =
      variables E P d w >>= λ vs. expect marks.Semicolon >> pure (members.Field (record { modifiers = ms; of = t; variables = vs }))
  field ms results.Void = refuse

  unfoldable pub typed : TypeHead → List Modifier → Parser Member
  typed h ms = type_use >>= λ t. choose begins_parameters (method h ms (results.Of t)) (field ms (results.Of t))

  unfoldable pub void_method : TypeHead → List Modifier → Parser Member
  void_method h ms = expect marks.Void >> method h ms results.Void

  -- Method | Ctor | Field, behind modifiers
  unfoldable pub declared : TypeHead → List Modifier → Parser Member
  declared h ms = choose (sees marks.Void) (void_method h ms) (choose begins_parameters (constructor h ms) (typed h ms))

  -- ['static'] Block (JLS 8.6, 8.7)
  unfoldable pub initializer_block : TypeHead → Parser Member
  initializer_block h =
      eat marks.Static >>= λ is_static. block E P d w >>= λ b s. cond (is_interface h) Fail (Done (members.Initializer is_static b) s)

  unfoldable pub member_type : Parser Member
  member_type = P.type d places.Member w >>= λ at. pure (members.Type at)

  -- Member (JLS 8.1.5, 9.1.3)
  unfoldable pub member : TypeHead → Parser Member
  member h =
      choose (sees marks.Semicolon) (expect marks.Semicolon >> pure members.Empty)
      (choose begins_initializer (initializer_block h)
      (choose begins_type member_type (modifiers >>= declared h)))

  unfoldable pub any_member : TypeHead → Parser (Option Member)
  any_member h = unless (sees marks.RightBrace) (member h)

-- what stands in the list of types for one that isn't read to its end
unfoldable pub unfinished : TypeDecl
unfinished = record { parent = None; place = places.TopLevel; head = heads.Anonymous; brace = 0; members = [] }

-- begins a type, and gives its number
abbrev pub begun : Parser ℕ
begun = λ s. Done (length s.types) (state (s.types ++ unfinished ∷ []) s.tokens)

-- puts a type in its place
abbrev pub finish : ℕ → TypeDecl → Parser ℕ
finish number t = λ s. Done t.brace (state (slice_set s.types number t) s.tokens)

module _ (E : Exprs) (P : Parts) (d : ℕ) where
  -- the members of a body, and its '}'
  unfoldable pub members_of : TypeHead → ℕ → Parser (List Member)
  members_of h number = list (any_member E P d (Some number) h) >>= λ ms. expect marks.RightBrace >> pure ms

  -- a type, behind its head and its `{`: its members have one less of the depth left
  unfoldable pub type_body : TypePlace → Option ℕ → TypeHead → ℕ → Parser ℕ
  type_body place w h at = λ s.
      and_then (members_of h (length s.types) (state (s.types ++ unfinished ∷ []) s.tokens))
      (λ ms. finish (length s.types) (record { parent = w; place = place; head = h; brace = at; members = ms }))

  -- Mods (Class | Iface), or the Body of an anonymous class (JLS 8.1, 9.1, 15.9.5)
  unfoldable pub type_decl : TypePlace → Option ℕ → Parser ℕ
  type_decl place w = head place >>= λ h. brace >>= type_body place w h
