-- What tokens weigh in declarations and units, and so in all nodes.
use Rattle.std.proofs.Common.{◌≡◌, ◌+◌, ℕ, zero, suc, Bool, true, false, List, [], ◌∷◌, ◌++◌, Option, Some, None, map, flat_map, refl, sym, ap, subst, ◌∙◌, arith, option_to_list, IfSome}
use Rattle.java_tree.specs.declared.mark.Mark.{Mark}
use Rattle.java_tree.specs.declared.mark.Mark.TheVariants as marks
use Rattle.java_tree.specs.declared.names.ElementType.{ElementType}
use Rattle.java_tree.specs.declared.names.ElementType.TheVariants as elements
use Rattle.java_tree.specs.declared.names.Ident.{Ident}
use Rattle.java_tree.specs.declared.occurrence.Access.TheVariants.{Read}
use Rattle.java_tree.specs.declared.stmt.Block.{Block}
use Rattle.java_tree.specs.declared.stmt.Parameter.{Parameter}
use Rattle.java_tree.specs.declared.unit.Callee.{Callee}
use Rattle.java_tree.specs.declared.unit.Callee.TheVariants as callees
use Rattle.java_tree.specs.declared.unit.Constructor.{Constructor}
use Rattle.java_tree.specs.declared.unit.Explicit.{Explicit}
use Rattle.java_tree.specs.declared.unit.Import.{Import}
use Rattle.java_tree.specs.declared.unit.Member.{Member}
use Rattle.java_tree.specs.declared.unit.Member.TheVariants as members
use Rattle.java_tree.specs.declared.unit.Method.{Method}
use Rattle.java_tree.specs.declared.names.Modifier.{Modifier}
use Rattle.java_tree.specs.declared.unit.ResultType.{ResultType}
use Rattle.java_tree.specs.declared.unit.ResultType.TheVariants as results
use Rattle.java_tree.specs.declared.unit.TopLevel.{TopLevel}
use Rattle.java_tree.specs.declared.unit.TopLevel.TheVariants as tops
use Rattle.java_tree.specs.declared.unit.TypeDecl.{TypeDecl}
use Rattle.java_tree.specs.declared.unit.TypeHead.{TypeHead}
use Rattle.java_tree.specs.declared.unit.TypeHead.TheVariants as heads
use Rattle.java_tree.specs.declared.unit.Unit.{Unit as CompilationUnit}
use Rattle.java_model.specs.Tree.Nodes.{Node}
use Rattle.java_model.specs.Tree.Nodes as nodes
use Rattle.java_model.specs.Tree.Children.{Numbered, numbered, header_names, in_declaration, in_body, in_result, in_member, in_callee, top_level, in_unit, children}
use Rattle.java_model.specs.Tree.InExpressions.{reads, spelled, type_name}
use Rattle.java_model.specs.Tree.InStatements.{block_statement, optional_block}
use Rattle.java_model.specs.Grammar.Forms.{IsNonEmpty}
use Rattle.java_model.specs.Grammar.Signs.{mark, left_brace, this, super, word, modifier_mark, primitive_mark}
use Rattle.java_model.specs.Grammar.Pieces.{Piece, token, hole, Hole, Around, each, yield_dims, yield_type, yield_element, yield_name, names_behind}
use Rattle.java_model.specs.Grammar.YieldExpr.{yield_arguments, yield_expr, yield_primary}
use Rattle.java_model.specs.Grammar.YieldStmt.{all_yield, yield_variable, yield_variables, yield_parameter, yield_block_statement}
use Rattle.java_model.specs.Grammar.YieldUnit.{yield_modifiers, yield_clause, yield_superclass, yield_head, yield_parameters, yield_result, yield_method_body, yield_method, yield_callee, yield_explicit, yield_constructor, yield_static, yield_member, inside, yield_type_decl, yield_package, yield_star, yield_import, yield_top, outermost, yield_unit}
use Rattle.java_model.proofs.Grammar.Reads.{spells_type_of}
use Rattle.java_laws.proofs.Starts.{Weight, total, total-append, Knows, Holds, nothing, both, fit, next, skip, one-token, behind, before-plain, behind-plain, dims-hold, name-holds, between, each-holds, parted-holds, none-hold}
use Rattle.java_laws.proofs.StartsExpr.{own, own-element, own-callee, own-member, own-head, own-declared, Good, Alone, type-holds, arguments-hold, expr-parts, first-parts, selector-parts, primary-parts, creation-parts, array-parts}
use Rattle.java_laws.proofs.StartsStmt.{statements-hold, variable-parts, local-parts, parameter-parts, block-parts, catch-parts, arm-parts, group-parts, stmt-parts}

module _ (at : Weight) (types : List TypeDecl) (T : Node → ℕ) (G : (n : Node) → Good at types T n) where
  modifiers-hold : (ms : List Modifier) → Holds at types T (yield_modifiers ms) 0 []
  modifiers-hold [] = nothing at types T
  modifiers-hold (m ∷ ms) = skip at types T (mark (modifier_mark m)) _ 0 [] (modifiers-hold ms)

  counted : (i : Ident) (ps : List Piece) (ns : List Node) → Holds at types T ps 0 ns → Holds at types T (token (word i) ∷ ps) (at.weigh i.span) ns
  counted i ps ns h = fit at types T _ (at.weigh i.span + 0) _ ns ns (omega arith) (next at types T (word i) ps 0 ns h)

  module _ (f : List Ident → Node) (h : (n : List Ident) → Alone at types T (yield_name n) (f n)) where
    names-behind-hold : (ns : List (List Ident)) → Holds at types T (names_behind ns) 0 (map f ns)
    names-behind-hold [] = nothing at types T
    names-behind-hold (n ∷ ns) = skip at types T (mark marks.Comma) _ 0 _ (behind at types T (yield_name n) _ (f n ∷ []) (map f ns) (h n)
        (names-behind-hold ns))

    clause-holds : (m : Mark) (ns : List (List Ident)) → Holds at types T (yield_clause m ns) 0 (map f ns)
    clause-holds m [] = nothing at types T
    clause-holds m (n ∷ ns) = skip at types T (mark m) _ 0 _ (behind at types T (yield_name n) _ (f n ∷ []) (map f ns) (h n) (names-behind-hold ns))

    class-clauses : (e : Option (List Ident)) (ns : List (List Ident))
        → Holds at types T (yield_superclass e ++ yield_clause marks.Implements ns) 0 (map f (option_to_list e ++ ns))
    class-clauses None ns = clause-holds marks.Implements ns
    class-clauses (Some n) ns = behind at types T (yield_superclass (Some n)) _ (f n ∷ []) (map f ns)
        (skip at types T (mark marks.Extends) _ 0 _ (h n)) (clause-holds marks.Implements ns)

  head-holds : (number : ℕ) (head : TypeHead) → Holds at types T (yield_head head) (own-head at head) (map (nodes.supertype number) (header_names head))
  head-holds number (heads.Class c) =
      behind-plain at types T (yield_modifiers c.modifiers) _ _ _ (modifiers-hold c.modifiers) (skip at types T (mark marks.Class) _ _ _
      (counted c.name _ _ (class-clauses (nodes.supertype number) (λ n. G (nodes.supertype number n)) c.extends c.implements)))
  head-holds number (heads.Interface i) =
      behind-plain at types T (yield_modifiers i.modifiers) _ _ _ (modifiers-hold i.modifiers) (skip at types T (mark marks.Interface) _ _ _
      (counted i.name _ _ (clause-holds (nodes.supertype number) (λ n. G (nodes.supertype number n)) marks.Extends i.extends)))
  head-holds number heads.Anonymous = nothing at types T

  throws-hold : (ns : List (List Ident)) → Holds at types T (yield_clause marks.Throws ns) 0 (map type_name ns)
  throws-hold ns = clause-holds type_name (λ n. G (type_name n)) marks.Throws ns

  parameters-hold : (ps : List Parameter) (a : Around) → Holds at types T (yield_parameters ps a) 0 (map nodes.parameter ps)
  parameters-hold ps a = between at types T (mark marks.LeftParen) (mark marks.RightParen) _ _
      (parted-holds at types T yield_parameter nodes.parameter (λ p b. G (nodes.parameter p) b) ps a)

  result-holds : (r : ResultType) (dims : ℕ) → Holds at types T (yield_result r) 0 (in_result r dims)
  result-holds results.Void dims = one-token at types T (mark marks.Void)
  result-holds (results.Of t) dims = type-holds at types T G t (t.dims + dims)

  method-body-holds : (b : Option Block) (a : Around) → Holds at types T (yield_method_body b a) 0 (optional_block b)
  method-body-holds None a = one-token at types T (mark marks.Semicolon)
  method-body-holds (Some b) a = G (nodes.block b) a

  method-holds : (number : ℕ) (m : Method) (a : Around) → Holds at types T (yield_method m a) (at.weigh m.name.span) (in_member number (members.Method m))
  method-holds number m a =
      let R = in_result m.result m.dims in
      let P = map nodes.parameter m.parameters in
      let H = map type_name m.throws in
      let B = optional_block m.body in
      let e = total-append T R (P ++ H ++ B) in
      let f = total-append T (P ++ H) B in
      let g = total-append T P H in
      let h = total-append T (R ++ P ++ H) B in
      let i = total-append T (R ++ P) H in
      let j = total-append T R P in
      fit at types T _ (0 + at.weigh m.name.span) _ (R ++ (P ++ H ++ B)) (R ++ P ++ H ++ B) (omega (arith, e, f, g, h, i, j))
      (both at types T (yield_modifiers m.modifiers ++ yield_result m.result) _ 0 (at.weigh m.name.span) R (P ++ H ++ B)
      (behind at types T (yield_modifiers m.modifiers) _ [] R (modifiers-hold m.modifiers) (result-holds m.result m.dims))
      (counted m.name _ _
      (behind at types T (yield_parameters m.parameters a ++ yield_dims m.dims ++ yield_clause marks.Throws m.throws) _ (P ++ H) B
      (behind at types T (yield_parameters m.parameters a ++ yield_dims m.dims) _ P H
      (before-plain at types T (yield_parameters m.parameters a) _ 0 P (parameters-hold m.parameters a) (dims-hold at types T m.dims)) (throws-hold m.throws))
      (method-body-holds m.body a))))

  callee-holds : (c : Callee) (a : Around) → Holds at types T (yield_callee c a) (own-callee at c) (in_callee c)
  callee-holds (callees.This s) a = fit at types T _ (at.weigh s + 0) _ [] [] (omega arith) (next at types T (this s) _ 0 [] (nothing at types T))
  callee-holds (callees.Super None s) a = fit at types T _ (at.weigh s + 0) _ [] [] (omega arith) (next at types T (super s) _ 0 [] (nothing at types T))
  callee-holds (callees.Super (Some p) s) a = fit at types T _ (0 + at.weigh s) _ (nodes.primary Read p ∷ []) (nodes.primary Read p ∷ []) (omega arith)
      (both at types T (yield_primary p a) _ 0 (at.weigh s) (nodes.primary Read p ∷ []) [] (G (nodes.primary Read p) a)
      (skip at types T (mark marks.Dot) _ _ [] (fit at types T _ (at.weigh s + 0) _ [] [] (omega arith) (next at types T (super s) _ 0 []
      (nothing at types T)))))

  explicit-parts : (e : Explicit) (a : Around)
      → Holds at types T (yield_explicit (Some e) a) (own-callee at e.callee) (in_callee e.callee ++ map reads e.arguments)
  explicit-parts e a =
      before-plain at types T (yield_callee e.callee a ++ yield_arguments (map yield_expr e.arguments) a) _ _ _
      (fit at types T _ (own-callee at e.callee + 0) _ (in_callee e.callee ++ map reads e.arguments) (in_callee e.callee ++ map reads e.arguments) (omega arith)
      (both at types T (yield_callee e.callee a) _ (own-callee at e.callee) 0 (in_callee e.callee) (map reads e.arguments) (callee-holds e.callee a)
      (arguments-hold at types T G e.arguments a))) (one-token at types T (mark marks.Semicolon))

  any-explicit-holds : (number : ℕ) (e : Option Explicit) (a : Around)
      → Holds at types T (yield_explicit e a) 0 (map (nodes.explicit number) (option_to_list e))
  any-explicit-holds number None a = nothing at types T
  any-explicit-holds number (Some e) a = G (nodes.explicit number e) a

  constructor-holds : (number : ℕ) (c : Constructor) (a : Around)
      → Holds at types T (yield_constructor c a) (at.weigh c.name.span) (in_member number (members.Constructor c))
  constructor-holds number c a =
      let P = map nodes.parameter c.parameters in
      let H = map type_name c.throws in
      let E = map (nodes.explicit number) (option_to_list c.explicit) in
      let S = map block_statement c.statements in
      let e = total-append T (P ++ H) (E ++ S) in
      let f = total-append T E S in
      let g = total-append T (P ++ H ++ E) S in
      let h = total-append T (P ++ H) E in
      fit at types T _ _ _ ((P ++ H) ++ (E ++ S)) (P ++ H ++ E ++ S) (omega (arith, e, f, g, h))
      (behind-plain at types T (yield_modifiers c.modifiers) _ _ _ (modifiers-hold c.modifiers)
      (counted c.name _ _
      (behind at types T (yield_parameters c.parameters a ++ yield_clause marks.Throws c.throws) _ (P ++ H) (E ++ S)
      (behind at types T (yield_parameters c.parameters a) _ P H (parameters-hold c.parameters a) (throws-hold c.throws))
      (skip at types T (left_brace c.brace) _ 0 _
      (before-plain at types T (yield_explicit c.explicit a ++ all_yield (map yield_block_statement c.statements) a) _ 0 _
      (behind at types T (yield_explicit c.explicit a) _ E S (any-explicit-holds number c.explicit a) (statements-hold at types T G c.statements a))
      (one-token at types T (mark marks.RightBrace)))))))

  static-holds : (b : Bool) → Holds at types T (yield_static b) 0 []
  static-holds true = one-token at types T (mark marks.Static)
  static-holds false = nothing at types T

  member-parts : (number : ℕ) (m : Member) (a : Around) → Holds at types T (yield_member m a) (own-member at m) (in_member number m)
  member-parts number members.Empty a = one-token at types T (mark marks.Semicolon)
  member-parts number (members.Initializer b x) a = behind at types T (yield_static b) _ [] (nodes.block x ∷ []) (static-holds b) (G (nodes.block x) a)
  member-parts number (members.Type brace) a = G (nodes.declaration brace) _ refl
  member-parts number (members.Method m) a = method-holds number m a
  member-parts number (members.Constructor c) a = constructor-holds number c a
  member-parts number (members.Field f) a =
      before-plain at types T (yield_modifiers f.modifiers ++ yield_type f.of ++ yield_variables f.variables a) _ 0 _
      (behind at types T (yield_modifiers f.modifiers ++ yield_type f.of) _ (spelled f.of ∷ []) (map (nodes.field number) f.variables)
      (behind at types T (yield_modifiers f.modifiers) _ [] (spelled f.of ∷ []) (modifiers-hold f.modifiers) (type-holds at types T G f.of f.of.dims))
      (parted-holds at types T yield_variable (nodes.field number) (λ v b. G (nodes.field number v) b) f.variables a))
      (one-token at types T (mark marks.Semicolon))

  -- a type in its hole
  decl-holds : (n : ℕ) (h : Hole) (t : Numbered) (brace : ℕ) → numbered types brace ≡ Some t
      → Holds at types T (yield_type_decl n h t.type) (own-head at t.type.head) (in_declaration brace (Some t))
  decl-holds n h t brace e =
      fit at types T _ (own-head at t.type.head + 0) _ (in_declaration brace (Some t)) (in_declaration brace (Some t)) (omega arith)
      (both at types T (yield_head t.type.head) _ (own-head at t.type.head) 0 (map (nodes.supertype t.number) (header_names t.type.head))
      (nodes.body brace ∷ [])
      (head-holds t.number t.type.head)
      (between at types T (left_brace t.type.brace) (mark marks.RightBrace) _ _ ((G (nodes.body brace)).1 t e (inside n h))))

  body-parts : (t : Numbered) (a : Around) → Holds at types T (each (map yield_member t.type.members) a) 0 (in_body (Some t))
  body-parts t a = each-holds at types T yield_member (nodes.member t.number) (λ m b. G (nodes.member t.number m) b) t.type.members a

  anonymous-holds : (n : ℕ) (h : Hole) (t : Numbered) → Holds at types T (yield_type_decl n h t.type) 0 (in_body (Some t))
  anonymous-holds n h t =
      behind at types T (yield_head t.type.head) _ [] (in_body (Some t))
      (fit at types T _ _ 0 (map (nodes.supertype t.number) (header_names t.type.head)) [] (omega arith) (head-holds t.number t.type.head))
      (between at types T (left_brace t.type.brace) (mark marks.RightBrace) _ _ (body-parts t (inside n h)))

  in-hole : (brace k : ℕ) (ns : List Node) (h : Hole) → h.brace ≡ brace
      → ((n : ℕ) (t : Numbered) → numbered types brace ≡ Some t → Holds at types T (yield_type_decl n h t.type) k ns)
      → Holds at types T (hole h ∷ []) k ns
  in-hole brace k ns h e f = record {
    keeps = λ s t x w. spells_type_of h [] s t x (λ d ds m g shape y rest.
        let v = subst (λ xs. Knows types xs) g w in
        let known = v.0 in
        let there = ap (numbered types) (sym (shape.brace ∙ e)) ∙ known.is in
        let a = (f s.number (record { number = known.number; type = d }) there).keeps _ m y v.1 in
        let b = (nothing at types T).keeps m t rest a.knows in
        let p = a.fewer in
        let q = b.fewer in
        record { fewer = omega (arith, p, q); knows = b.knows });
  }

  declaration-parts : (brace : ℕ) (h : Hole) → h.brace ≡ brace
      → Holds at types T (hole h ∷ []) (own-declared at (numbered types brace)) (in_declaration brace (numbered types brace))
  declaration-parts brace h e = in-hole brace _ _ h e (λ n t f.
      subst (λ o. Holds at types T (yield_type_decl n h t.type) (own-declared at o) (in_declaration brace o)) (sym f) (decl-holds n h t brace f))

  body-hole-parts : (brace : ℕ) (h : Hole) → h.brace ≡ brace → Holds at types T (hole h ∷ []) 0 (in_body (numbered types brace))
  body-hole-parts brace h e = in-hole brace 0 _ h e (λ n t f.
      subst (λ o. Holds at types T (yield_type_decl n h t.type) 0 (in_body o)) (sym f) (anonymous-holds n h t))

  body-list-parts : (brace : ℕ) (t : Numbered) → numbered types brace ≡ Some t → (a : Around)
      → Holds at types T (each (map yield_member t.type.members) a) 0 (in_body (numbered types brace))
  body-list-parts brace t e a = subst (λ o. Holds at types T (each (map yield_member t.type.members) a) 0 (in_body o)) (sym e) (body-parts t a)

  element-parts : (e : ElementType) → Holds at types T (yield_element e) (own-element at e) []
  element-parts (elements.Primitive p) = one-token at types T (mark (primitive_mark p))
  element-parts (elements.Named n) = name-holds at types T n

  -- UNITS
  package-holds : (p : Option (List Ident)) → IfSome p IsNonEmpty → Holds at types T (yield_package p) 0 (map nodes.package_clause (option_to_list p))
  package-holds None h = nothing at types T
  package-holds (Some n) h = skip at types T (mark marks.Package) _ 0 _
      (before-plain at types T (yield_name n) _ 0 _ (G (nodes.package_clause n) h) (one-token at types T (mark marks.Semicolon)))

  star-holds : (b : Bool) → Holds at types T (yield_star b) 0 []
  star-holds true = skip at types T (mark marks.Dot) _ 0 [] (one-token at types T (mark marks.Star))
  star-holds false = nothing at types T

  import-holds : (i : Import) (a : Around) → Holds at types T (yield_import i a) 0 (nodes.imported i ∷ [])
  import-holds i a = skip at types T (mark marks.Import) _ 0 _
      (before-plain at types T (yield_name i.name ++ yield_star i.star) _ 0 _
      (before-plain at types T (yield_name i.name) _ 0 _ (G (nodes.imported i)) (star-holds i.star)) (one-token at types T (mark marks.Semicolon)))

  top-holds : (t : TopLevel) (a : Around) → Holds at types T (yield_top t a) 0 (top_level t)
  top-holds (tops.Type brace) a = G (nodes.declaration brace) _ refl
  top-holds tops.Empty a = one-token at types T (mark marks.Semicolon)

  tops-hold : (ts : List TopLevel) (a : Around) → Holds at types T (each (map yield_top ts) a) 0 (flat_map top_level ts)
  tops-hold [] a = nothing at types T
  tops-hold (t ∷ ts) a = behind at types T (yield_top t a) _ (top_level t) (flat_map top_level ts) (top-holds t a) (tops-hold ts a)

  pub unit-holds : (u : CompilationUnit) → IfSome u.«package» IsNonEmpty → Holds at types T (yield_unit u) 0 (in_unit u)
  unit-holds u h =
      behind at types T (yield_package u.«package» ++ each (map yield_import u.imports) outermost) _
      (map nodes.package_clause (option_to_list u.«package») ++ map nodes.imported u.imports) (flat_map top_level u.declarations)
      (behind at types T (yield_package u.«package») _ (map nodes.package_clause (option_to_list u.«package»)) (map nodes.imported u.imports)
      (package-holds u.«package» h)
      (each-holds at types T yield_import nodes.imported import-holds u.imports outermost))
      (tops-hold u.declarations outermost)

-- one more layer of the tree
abbrev pub grown : Weight → List TypeDecl → (Node → ℕ) → Node → ℕ
grown at types T n = own at types n + total T (children types n)

module _ (at : Weight) (types : List TypeDecl) (T : Node → ℕ) (G : (n : Node) → Good at types T n) where
  rolled : (ps : List Piece) (n : Node) → Holds at types T ps (own at types n) (children types n) → Alone at types (grown at types T) ps n
  rolled ps n h = record {
    keeps = λ s t x w. let a = h.keeps s t x w in let p = a.fewer in record { fewer = omega (arith, p); knows = a.knows };
  }

  pub grows : (n : Node) → Good at types (grown at types T) n
  grows (nodes.unit u) = tt
  grows (nodes.package_clause []) = λ e. absurd e
  grows (nodes.package_clause (i ∷ n)) = λ e. rolled _ (nodes.package_clause (i ∷ n)) (name-holds at types T (i ∷ n))
  grows (nodes.imported i) = rolled _ (nodes.imported i) (name-holds at types T i.name)
  grows (nodes.declaration brace) = λ h e. rolled _ (nodes.declaration brace) (declaration-parts at types T G brace h e)
  grows (nodes.supertype number n) = rolled _ (nodes.supertype number n) (name-holds at types T n)
  grows (nodes.body brace) = (
    λ h e. rolled _ (nodes.body brace) (body-hole-parts at types T G brace h e),
    λ t e a. rolled _ (nodes.body brace) (body-list-parts at types T G brace t e a),
  )
  grows (nodes.member number m) = λ a. rolled _ (nodes.member number m) (member-parts at types T G number m a)
  grows (nodes.field number v) = λ a. rolled _ (nodes.field number v) (variable-parts at types T G v a)
  grows (nodes.variable t v) = λ a. rolled _ (nodes.variable t v)
      (fit at types T _ _ 0 (children types (nodes.variable t v)) (children types (nodes.variable t v)) (omega arith) (variable-parts at types T G v a))
  grows (nodes.parameter p) = λ a. rolled _ (nodes.parameter p) (parameter-parts at types T G p a)
  grows (nodes.type_use e dims) = rolled _ (nodes.type_use e dims) (element-parts at types T G e)
  grows (nodes.explicit number e) = λ a. rolled _ (nodes.explicit number e) (explicit-parts at types T G e a)
  grows (nodes.block b) = λ a. rolled _ (nodes.block b) (block-parts at types T G b a)
  grows (nodes.statement s) = λ a. rolled _ (nodes.statement s) (stmt-parts at types T G s a)
  grows (nodes.locals l) = λ a. rolled _ (nodes.locals l) (local-parts at types T G l a)
  grows (nodes.arm x) = λ a. rolled _ (nodes.arm x) (arm-parts at types T G x a)
  grows (nodes.group g) = λ a. rolled _ (nodes.group g) (group-parts at types T G g a)
  grows (nodes.catch_clause c) = λ a. rolled _ (nodes.catch_clause c) (catch-parts at types T G c a)
  grows (nodes.expression how x) = λ a. rolled _ (nodes.expression how x) (expr-parts at types T G how x a)
  grows (nodes.primary how p) = λ a. rolled _ (nodes.primary how p) (primary-parts at types T G how p a)
  grows (nodes.first how f) = λ a. rolled _ (nodes.first how f) (first-parts at types T G how f a)
  grows (nodes.selector x) = λ a. rolled _ (nodes.selector x) (selector-parts at types T G x a)
  grows (nodes.creation c) = λ a. rolled _ (nodes.creation c) (creation-parts at types T G c a)
  grows (nodes.array b) = λ a. rolled _ (nodes.array b) (array-parts at types T G b a)

none-good : (at : Weight) (types : List TypeDecl) (n : Node) → Good at types (λ m. 0) n
none-good at types (nodes.unit u) = tt
none-good at types (nodes.package_clause n) = λ e. none-hold at types _ _
none-good at types (nodes.imported i) = none-hold at types _ _
none-good at types (nodes.declaration brace) = λ h e. none-hold at types _ _
none-good at types (nodes.supertype number n) = none-hold at types _ _
none-good at types (nodes.body brace) = (λ h e. none-hold at types _ _, λ t e a. none-hold at types _ _)
none-good at types (nodes.member number m) = λ a. none-hold at types _ _
none-good at types (nodes.field number v) = λ a. none-hold at types _ _
none-good at types (nodes.variable t v) = λ a. none-hold at types _ _
none-good at types (nodes.parameter p) = λ a. none-hold at types _ _
none-good at types (nodes.type_use e dims) = none-hold at types _ _
none-good at types (nodes.explicit number e) = λ a. none-hold at types _ _
none-good at types (nodes.block b) = λ a. none-hold at types _ _
none-good at types (nodes.statement s) = λ a. none-hold at types _ _
none-good at types (nodes.locals l) = λ a. none-hold at types _ _
none-good at types (nodes.arm x) = λ a. none-hold at types _ _
none-good at types (nodes.group g) = λ a. none-hold at types _ _
none-good at types (nodes.catch_clause c) = λ a. none-hold at types _ _
none-good at types (nodes.expression how x) = λ a. none-hold at types _ _
none-good at types (nodes.primary how p) = λ a. none-hold at types _ _
none-good at types (nodes.first how f) = λ a. none-hold at types _ _
none-good at types (nodes.selector x) = λ a. none-hold at types _ _
none-good at types (nodes.creation c) = λ a. none-hold at types _ _
none-good at types (nodes.array b) = λ a. none-hold at types _ _

-- all that the tree below a node spells, so many layers deep
abbrev pub tokens-in : Weight → List TypeDecl → ℕ → Node → ℕ
tokens-in at types zero n = 0
tokens-in at types (suc f) n = grown at types (tokens-in at types f) n

pub all-good : (at : Weight) (types : List TypeDecl) (f : ℕ) (n : Node) → Good at types (tokens-in at types f) n
all-good at types zero n = none-good at types n
all-good at types (suc f) n = grows at types (tokens-in at types f) (all-good at types f) n
