-- What is found in each form of a member.
use Rattle.std.proofs.Common.{◌≡◌, ℕ, Bool, true, false, List, [], ◌∷◌, ◌++◌, Some, None, map, take, length, refl, ap, ◌∙◌}
use Rattle.java_tree.specs.declared.mark.Mark.{Mark}
use Rattle.java_tree.specs.declared.mark.Mark.TheVariants as marks
use Rattle.java_tree.specs.declared.names.Ident.{Ident}
use Rattle.java_tree.specs.declared.names.Modifier.{Modifier}
use Rattle.java_tree.specs.declared.token.Span.{Span}
use Rattle.java_tree.specs.declared.expr.Primary.{Primary}
use Rattle.java_tree.specs.declared.stmt.Block.{Block}
use Rattle.java_tree.specs.declared.stmt.Parameter.{Parameter}
use Rattle.java_tree.specs.declared.unit.Callee.TheVariants as callees
use Rattle.java_tree.specs.declared.unit.Constructor.{Constructor}
use Rattle.java_tree.specs.declared.unit.Explicit.{Explicit}
use Rattle.java_tree.specs.declared.unit.Fields.{Fields}
use Rattle.java_tree.specs.declared.unit.Member.TheVariants as members
use Rattle.java_tree.specs.declared.unit.Method.{Method}
use Rattle.java_tree.specs.declared.unit.ResultType.{ResultType}
use Rattle.java_tree.specs.declared.unit.ResultType.TheVariants as results
use Rattle.java_tree.specs.declared.unit.TopLevel.TheVariants as tops
use Rattle.java_tree.specs.declared.unit.TypeDecl.{TypeDecl}
use Rattle.java_tree.specs.declared.unit.TypePlace.TheVariants as places
use Rattle.java_model.specs.Grammar.Signs.{word, left_brace, super}
use Rattle.java_model.specs.Grammar.Pieces.{Piece, token, hole, the, Hole, Around, deeper, each, parted, yield_name, names_behind, yield_dims, yield_type}
use Rattle.java_model.specs.Grammar.Runs.{holes_of}
use Rattle.java_model.specs.Grammar.YieldExpr.{yield_arguments, yield_expr, yield_primary}
use Rattle.java_model.specs.Grammar.YieldStmt.{all_yield, in_sequence, yield_parameter, yield_variable, yield_variables, yield_block, yield_block_statement}
use Rattle.java_model.specs.Grammar.YieldUnit.{yield_modifiers, yield_clause, yield_parameters, yield_result, yield_method_body, yield_method, yield_callee, yield_explicit, yield_constructor, yield_fields, yield_static, yield_member, inside, yield_head, yield_type_decl, yield_top}
use Rattle.java_model.proofs.Grammar.Braces.{HasNoHole, no_hole_head}
use Rattle.java_document.specs.Holes.{locals_in, Finds, Passes, Keeps}
use Rattle.java_document.specs.declared.hole.FoundHole.{FoundHole}
use Rattle.java_document.specs.declared.scope.Scope.{Scope}
use Rattle.java_document.proofs.Seeing.{holes_both, holes_behind, holes_before, holes_name, holes_dims, holes_type, holes_parted, finds_nothing, finds_same, finds_both}
use Rattle.java_document.proofs.InExpressions.{holes_arguments}
use Rattle.java_document.proofs.InStatements.{holes_parameter, holes_variables, keeps_found, keeps_nothing, keeps_same, keeps_block}

-- ---- pieces

holes_modifiers : (ms : List Modifier) → holes_of (yield_modifiers ms) ≡ []
holes_modifiers [] = refl
holes_modifiers (m ∷ ms) = holes_modifiers ms

holes_names : (ns : List (List Ident)) → holes_of (names_behind ns) ≡ []
holes_names [] = refl
holes_names (n ∷ ns) = holes_behind (yield_name n) (names_behind ns) (holes_name n) ∙ holes_names ns

holes_clause : (m : Mark) (ns : List (List Ident)) → holes_of (yield_clause m ns) ≡ []
holes_clause m [] = refl
holes_clause m (n ∷ ns) = holes_behind (yield_name n) (names_behind ns) (holes_name n) ∙ holes_names ns

each_parameter : (ps : List Parameter) (a : Around) → holes_of (each (map yield_parameter ps) a) ≡ []
each_parameter [] a = refl
each_parameter (p ∷ ps) a = holes_behind (yield_parameter p a) (each (map yield_parameter ps) a) (holes_parameter p a) ∙ each_parameter ps a

holes_parameters : (ps : List Parameter) (a : Around) → holes_of (yield_parameters ps a) ≡ []
holes_parameters ps a = holes_before (parted (map yield_parameter ps) a) (the marks.RightParen ∷ []) refl ∙ holes_parted (map yield_parameter ps) a ∙ each_parameter ps a

holes_result : (r : ResultType) → holes_of (yield_result r) ≡ []
holes_result results.Void = refl
holes_result (results.Of t) = holes_type t

holes_static : (b : Bool) → holes_of (yield_static b) ≡ []
holes_static true = refl
holes_static false = refl

holes_none : (ps : List Piece) → HasNoHole ps → holes_of ps ≡ []
holes_none [] h = refl
holes_none (token s ∷ ps) h = holes_none ps h
holes_none (hole k ∷ ps) h = absurd h

-- the holes of a type are those of its members
pub holes_type_decl : (n : ℕ) (h : Hole) (t : TypeDecl) → holes_of (yield_type_decl n h t) ≡ holes_of (each (map yield_member t.members) (inside n h))
holes_type_decl n h t =
    holes_behind (yield_head t.head) (token (left_brace t.brace) ∷ (each (map yield_member t.members) (inside n h) ++ the marks.RightBrace ∷ [])) (holes_none (yield_head t.head) (no_hole_head t.head))
    ∙ holes_before (each (map yield_member t.members) (inside n h)) (the marks.RightBrace ∷ []) refl

-- ---- constructors

pub in_this : (l : List ℕ) (s : Span) (b : List FoundHole) → Finds l (yield_callee (callees.This s)) b b
in_this l s b = finds_nothing l (yield_callee (callees.This s)) b (λ a. refl)

pub in_super : (l : List ℕ) (s : Span) (b : List FoundHole) → Finds l (yield_callee (callees.Super None s)) b b
in_super l s b = finds_nothing l (yield_callee (callees.Super None s)) b (λ a. refl)

pub in_outer_super : (l : List ℕ) (p : Primary) (s : Span) (b c : List FoundHole) → Finds l (yield_primary p) b c → Finds l (yield_callee (callees.Super (Some p) s)) b c
in_outer_super l p s b c =
    finds_same l (yield_primary p) (yield_callee (callees.Super (Some p) s)) b c (λ a. a) (λ a. refl) (λ a. holes_before (yield_primary p a) (the marks.Dot ∷ token (super s) ∷ []) refl)

pub in_no_explicit : (l : List ℕ) (b : List FoundHole) → Finds l (yield_explicit None) b b
in_no_explicit l b = finds_nothing l (yield_explicit None) b (λ a. refl)

pub in_some_explicit : (l : List ℕ) (x : Explicit) (b m c : List FoundHole) → Finds l (yield_callee x.callee) b m → Finds l (each (map yield_expr x.arguments)) m c → Finds l (yield_explicit (Some x)) b c
in_some_explicit l x b m c =
    finds_both l (yield_callee x.callee) (each (map yield_expr x.arguments)) (yield_explicit (Some x)) b m c (λ a. a) deeper (λ a. refl) (λ a. refl)
    (λ a. holes_before (yield_callee x.callee a ++ yield_arguments (map yield_expr x.arguments) a) (the marks.Semicolon ∷ []) refl
    ∙ holes_both (yield_callee x.callee a) (yield_arguments (map yield_expr x.arguments) a)
    ∙ ap (λ hs. holes_of (yield_callee x.callee a) ++ hs) (holes_arguments (map yield_expr x.arguments) a))

holes_constructor : (x : Constructor) (a : Around)
    → holes_of (yield_constructor x a) ≡ holes_of (yield_explicit x.explicit a) ++ holes_of (all_yield (map yield_block_statement x.statements) a)
holes_constructor x a =
    holes_behind (yield_modifiers x.modifiers)
    (token (word x.name) ∷ (yield_parameters x.parameters a ++ yield_clause marks.Throws x.throws
    ++ token (left_brace x.brace) ∷ (yield_explicit x.explicit a ++ all_yield (map yield_block_statement x.statements) a ++ the marks.RightBrace ∷ []))) (holes_modifiers x.modifiers)
    ∙ holes_behind (yield_parameters x.parameters a ++ yield_clause marks.Throws x.throws)
    (token (left_brace x.brace) ∷ (yield_explicit x.explicit a ++ all_yield (map yield_block_statement x.statements) a ++ the marks.RightBrace ∷ []))
    (holes_behind (yield_parameters x.parameters a) (yield_clause marks.Throws x.throws) (holes_parameters x.parameters a) ∙ holes_clause marks.Throws x.throws)
    ∙ holes_before (yield_explicit x.explicit a ++ all_yield (map yield_block_statement x.statements) a) (the marks.RightBrace ∷ []) refl
    ∙ holes_both (yield_explicit x.explicit a) (all_yield (map yield_block_statement x.statements) a)

pub in_constructor : (s m t : Scope) (x : Constructor) (b n c : List FoundHole) → Finds (locals_in s) (yield_explicit x.explicit) b n
    → Passes (in_sequence (map yield_block_statement x.statements)) s m n c → t.base.now ≡ m.base.now → t.own.items ≡ take (length s.own.items) m.own.items
    → Keeps (yield_constructor x) s t b c
in_constructor s m t x b n c h g base own =
    let ended = keeps_block s m t (in_sequence (map yield_block_statement x.statements)) (all_yield (map yield_block_statement x.statements)) n c (λ a. refl) g base own in
    record {
      base = ended.base;
      own = ended.own;
      finds = finds_both (locals_in s) (yield_explicit x.explicit) (all_yield (map yield_block_statement x.statements)) (yield_constructor x) b n c (λ a. a) (λ a. a) (λ a. refl) (λ a. refl)
          (holes_constructor x) h ended.finds;
    }

-- ---- members

pub in_no_body : (s : Scope) (b : List FoundHole) → Keeps (yield_method_body None) s s b b
in_no_body s b = keeps_nothing s (yield_method_body None) b (λ a. refl)

pub in_some_body : (s t : Scope) (k : Block) (b c : List FoundHole) → Keeps (yield_block k) s t b c → Keeps (yield_method_body (Some k)) s t b c
in_some_body s t k b c = keeps_same s t (yield_block k) (yield_method_body (Some k)) b c (λ a. a) (λ a. refl) (λ a. refl)

pub in_semicolon : (s : Scope) (b : List FoundHole) → Keeps (yield_member members.Empty) s s b b
in_semicolon s b = keeps_nothing s (yield_member members.Empty) b (λ a. refl)

pub in_initializer_block : (s t : Scope) (is_static : Bool) (k : Block) (b c : List FoundHole) → Keeps (yield_block k) s t b c → Keeps (yield_member (members.Initializer is_static k)) s t b c
in_initializer_block s t is_static k b c =
    keeps_same s t (yield_block k) (yield_member (members.Initializer is_static k)) b c (λ a. a) (λ a. refl) (λ a. holes_behind (yield_static is_static) (yield_block k a) (holes_static is_static))

pub in_member_type : (s : Scope) (brace : ℕ) (b c : List FoundHole) → Finds (locals_in s) (λ a. hole (record { brace = brace; place = places.Member; created = []; around = a }) ∷ []) b c
    → Keeps (yield_member (members.Type brace)) s s b c
in_member_type s brace b c h =
    keeps_found s (yield_member (members.Type brace)) b c
    (finds_same (locals_in s) (λ a. hole (record { brace = brace; place = places.Member; created = []; around = a }) ∷ []) (yield_member (members.Type brace)) b c (λ a. a) (λ a. refl) (λ a. refl) h)

holes_method : (m : Method) (a : Around) → holes_of (yield_method m a) ≡ holes_of (yield_method_body m.body a)
holes_method m a =
    holes_behind (yield_modifiers m.modifiers ++ yield_result m.result)
    (token (word m.name) ∷ (yield_parameters m.parameters a ++ yield_dims m.dims ++ yield_clause marks.Throws m.throws ++ yield_method_body m.body a))
    (holes_behind (yield_modifiers m.modifiers) (yield_result m.result) (holes_modifiers m.modifiers) ∙ holes_result m.result)
    ∙ holes_behind (yield_parameters m.parameters a ++ yield_dims m.dims ++ yield_clause marks.Throws m.throws) (yield_method_body m.body a)
    (holes_behind (yield_parameters m.parameters a ++ yield_dims m.dims) (yield_clause marks.Throws m.throws)
    (holes_behind (yield_parameters m.parameters a) (yield_dims m.dims) (holes_parameters m.parameters a) ∙ holes_dims m.dims) ∙ holes_clause marks.Throws m.throws)

pub in_method : (s t : Scope) (m : Method) (b c : List FoundHole) → Keeps (yield_method_body m.body) s t b c → Keeps (yield_member (members.Method m)) s t b c
in_method s t m b c = keeps_same s t (yield_method_body m.body) (yield_member (members.Method m)) b c (λ a. a) (λ a. refl) (λ a. holes_method m a)

pub in_constructor_member : (s t : Scope) (x : Constructor) (b c : List FoundHole) → Keeps (yield_constructor x) s t b c → Keeps (yield_member (members.Constructor x)) s t b c
in_constructor_member s t x b c = keeps_same s t (yield_constructor x) (yield_member (members.Constructor x)) b c (λ a. a) (λ a. refl) (λ a. refl)

holes_fields : (f : Fields) (a : Around) → holes_of (yield_fields f a) ≡ holes_of (each (map yield_variable f.variables) a)
holes_fields f a =
    holes_before (yield_modifiers f.modifiers ++ yield_type f.of ++ yield_variables f.variables a) (the marks.Semicolon ∷ []) refl
    ∙ holes_behind (yield_modifiers f.modifiers ++ yield_type f.of) (yield_variables f.variables a) (holes_behind (yield_modifiers f.modifiers) (yield_type f.of) (holes_modifiers f.modifiers) ∙ holes_type f.of)
    ∙ holes_variables f.variables a

pub in_field : (s : Scope) (f : Fields) (b c : List FoundHole) → Finds (locals_in s) (each (map yield_variable f.variables)) b c → Keeps (yield_member (members.Field f)) s s b c
in_field s f b c h =
    keeps_same s s (each (map yield_variable f.variables)) (yield_member (members.Field f)) b c (λ a. a) (λ a. refl) (λ a. holes_fields f a)
    (keeps_found s (each (map yield_variable f.variables)) b c h)

-- ---- the unit

pub in_top_empty : (l : List ℕ) (b : List FoundHole) → Finds l (yield_top tops.Empty) b b
in_top_empty l b = finds_nothing l (yield_top tops.Empty) b (λ a. refl)

pub in_top_type : (l : List ℕ) (brace : ℕ) (b c : List FoundHole) → Finds l (λ a. hole (record { brace = brace; place = places.TopLevel; created = []; around = a }) ∷ []) b c
    → Finds l (yield_top (tops.Type brace)) b c
in_top_type l brace b c = finds_same l (λ a. hole (record { brace = brace; place = places.TopLevel; created = []; around = a }) ∷ []) (yield_top (tops.Type brace)) b c (λ a. a) (λ a. refl) (λ a. refl)
