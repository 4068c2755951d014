-- What is found in each form of an expression.
use Rattle.std.proofs.Common.{◌≡◌, ℕ, List, [], ◌∷◌, ◌++◌, Option, None, map, refl, ap, ◌∙◌}
use Rattle.java_tree.specs.declared.mark.Mark.TheVariants as marks
use Rattle.java_tree.specs.declared.names.ElementType.{ElementType}
use Rattle.java_tree.specs.declared.names.Ident.{Ident}
use Rattle.java_tree.specs.declared.names.Literal.{Literal}
use Rattle.java_tree.specs.declared.names.TypeUse.{TypeUse}
use Rattle.java_tree.specs.declared.operators.AssignOp.{AssignOp}
use Rattle.java_tree.specs.declared.operators.BinaryOp.{BinaryOp}
use Rattle.java_tree.specs.declared.operators.PrefixOp.{PrefixOp}
use Rattle.java_tree.specs.declared.operators.PostfixOp.{PostfixOp}
use Rattle.java_tree.specs.declared.token.Span.{Span}
use Rattle.java_tree.specs.declared.expr.Expr.{Expr}
use Rattle.java_tree.specs.declared.expr.Expr.TheVariants as exprs
use Rattle.java_tree.specs.declared.expr.First.TheVariants as firsts
use Rattle.java_tree.specs.declared.expr.Initializer.TheVariants as initializers
use Rattle.java_tree.specs.declared.expr.Operation.{Operation}
use Rattle.java_tree.specs.declared.expr.Operation.TheVariants as operations
use Rattle.java_tree.specs.declared.expr.Selector.TheVariants as selectors
use Rattle.java_tree.specs.declared.expr.ArrayInitializer.{ArrayInitializer}
use Rattle.java_tree.specs.declared.expr.Creation.{Creation}
use Rattle.java_tree.specs.declared.expr.Primary.{Primary}
use Rattle.java_model.specs.Grammar.Pieces.{Yield, the, Around, deeper, each, parted, yield_name, yield_dims, yield_element, yield_type}
use Rattle.java_model.specs.Grammar.Runs.{holes_of}
use Rattle.java_model.specs.Grammar.YieldExpr.{yield_arguments, yield_sizes, yield_super, yield_body, yield_comma, yield_expr, yield_first, yield_initializer, yield_operation, yield_selector, yield_array, yield_creation, yield_primary}
use Rattle.java_model.proofs.Grammar.Yield.{yield_array-parts, yield_creation-parts, yield_expr-Assign, yield_expr-Binary, yield_expr-Cast, yield_expr-Conditional, yield_expr-Postfix, yield_expr-Prefix, yield_first-Call, yield_first-ClassLiteral, yield_first-Literal, yield_first-Name, yield_first-New, yield_first-NewArray, yield_first-NewArrayOf, yield_first-Parenthesized, yield_first-QualifiedThis, yield_first-SuperCall, yield_first-SuperField, yield_first-This, yield_first-VoidClass, yield_initializer-Array, yield_initializer-Value, yield_operation-Infix, yield_operation-InstanceOf, yield_primary-parts, yield_selector-Field, yield_selector-Index, yield_selector-MemberCall, yield_selector-QualifiedNew}
use Rattle.java_document.specs.Holes.{Finds}
use Rattle.java_document.specs.declared.hole.FoundHole.{FoundHole}
use Rattle.java_document.proofs.Seeing.{holes_both, holes_behind, holes_before, holes_name, holes_dims, holes_element, holes_type, holes_postfixes, holes_comma, holes_super, holes_parted, holes_sizes, finds_nothing, finds_same, finds_both}

-- the arguments of a call
pub holes_arguments : (ys : List Yield) (a : Around) → holes_of (yield_arguments ys a) ≡ holes_of (each ys (deeper a))
holes_arguments ys a = holes_before (parted ys (deeper a)) _ refl ∙ holes_parted ys (deeper a)

pub in_assign : (l : List ℕ) (target : Primary) (op : AssignOp) (value : Expr) (b m c : List FoundHole) → Finds l (yield_primary target) b m → Finds l (yield_expr value) m c → Finds l (yield_expr (exprs.Assign target op value)) b c
in_assign l target op value b m c = finds_both l (yield_primary target) (yield_expr value) (yield_expr (exprs.Assign target op value)) b m c (λ a. a) deeper (λ a. refl) (λ a. refl) (λ a. ap holes_of (yield_expr-Assign target op value a) ∙ holes_both (yield_primary target a) _)

pub in_conditional : (l : List ℕ) (test then other : Expr) (b m n c : List FoundHole)
    → Finds l (yield_expr test) b m → Finds l (yield_expr then) m n → Finds l (yield_expr other) n c → Finds l (yield_expr (exprs.Conditional test then other)) b c
in_conditional l test then other b m n c h g k =
    let rest : Yield = λ a. yield_expr then (deeper a) ++ the marks.Colon ∷ yield_expr other (deeper a) in
    finds_both l (yield_expr test) rest (yield_expr (exprs.Conditional test then other)) b m c (λ a. a) (λ a. a) (λ a. refl) (λ a. refl)
    (λ a. ap holes_of (yield_expr-Conditional test then other a) ∙ holes_both (yield_expr test a) _) h
    (finds_both l (yield_expr then) (yield_expr other) rest m n c deeper deeper (λ a. refl) (λ a. refl) (λ a. holes_both (yield_expr then (deeper a)) _) g k)

pub in_binary : (l : List ℕ) (first : Expr) (rest : List Operation) (b m c : List FoundHole) → Finds l (yield_expr first) b m → Finds l (each (map yield_operation rest)) m c → Finds l (yield_expr (exprs.Binary first rest)) b c
in_binary l first rest b m c = finds_both l (yield_expr first) (each (map yield_operation rest)) (yield_expr (exprs.Binary first rest)) b m c (λ a. a) (λ a. a) (λ a. refl) (λ a. refl) (λ a. ap holes_of (yield_expr-Binary first rest a) ∙ holes_both (yield_expr first a) _)

pub in_prefix : (l : List ℕ) (op : PrefixOp) (operand : Expr) (b c : List FoundHole) → Finds l (yield_expr operand) b c → Finds l (yield_expr (exprs.Prefix op operand)) b c
in_prefix l op operand b c = finds_same l (yield_expr operand) (yield_expr (exprs.Prefix op operand)) b c deeper (λ a. refl) (λ a. ap holes_of (yield_expr-Prefix op operand a))

pub in_cast : (l : List ℕ) (type : TypeUse) (operand : Expr) (b c : List FoundHole) → Finds l (yield_expr operand) b c → Finds l (yield_expr (exprs.Cast type operand)) b c
in_cast l type operand b c = finds_same l (yield_expr operand) (yield_expr (exprs.Cast type operand)) b c deeper (λ a. refl) (λ a. ap holes_of (yield_expr-Cast type operand a) ∙ holes_behind (yield_type type) _ (holes_type type))

pub in_postfix : (l : List ℕ) (primary : Primary) (ops : List PostfixOp) (b c : List FoundHole) → Finds l (yield_primary primary) b c → Finds l (yield_expr (exprs.Postfix primary ops)) b c
in_postfix l primary ops b c = finds_same l (yield_primary primary) (yield_expr (exprs.Postfix primary ops)) b c (λ a. a) (λ a. refl) (λ a. ap holes_of (yield_expr-Postfix primary ops a) ∙ holes_before (yield_primary primary a) _ (holes_postfixes ops))

pub in_infix : (l : List ℕ) (op : BinaryOp) (operand : Expr) (b c : List FoundHole) → Finds l (yield_expr operand) b c → Finds l (yield_operation (operations.Infix op operand)) b c
in_infix l op operand b c = finds_same l (yield_expr operand) (yield_operation (operations.Infix op operand)) b c (λ a. a) (λ a. refl) (λ a. ap holes_of (yield_operation-Infix op operand a))

pub in_instance_of : (l : List ℕ) (type : TypeUse) (b : List FoundHole) → Finds l (yield_operation (operations.InstanceOf type)) b b
in_instance_of l type b = finds_nothing l (yield_operation (operations.InstanceOf type)) b (λ a. ap holes_of (yield_operation-InstanceOf type a) ∙ holes_type type)

pub in_parts : (l : List ℕ) (p : Primary) (b m c : List FoundHole) → Finds l (yield_first p.first) b m → Finds l (each (map yield_selector p.selectors)) m c → Finds l (yield_primary p) b c
in_parts l p b m c = finds_both l (yield_first p.first) (each (map yield_selector p.selectors)) (yield_primary p) b m c (λ a. a) (λ a. a) (λ a. refl) (λ a. refl) (λ a. ap holes_of (yield_primary-parts p a) ∙ holes_both (yield_first p.first a) _)

pub in_parenthesized : (l : List ℕ) (x : Expr) (b c : List FoundHole) → Finds l (yield_expr x) b c → Finds l (yield_first (firsts.Parenthesized x)) b c
in_parenthesized l x b c = finds_same l (yield_expr x) (yield_first (firsts.Parenthesized x)) b c deeper (λ a. refl) (λ a. ap holes_of (yield_first-Parenthesized x a) ∙ holes_before (yield_expr x (deeper a)) _ refl)

pub in_call : (l : List ℕ) (n : List Ident) (args : List Expr) (b c : List FoundHole) → Finds l (each (map yield_expr args)) b c → Finds l (yield_first (firsts.Call n args)) b c
in_call l n args b c = finds_same l (each (map yield_expr args)) (yield_first (firsts.Call n args)) b c deeper (λ a. refl) (λ a. ap holes_of (yield_first-Call n args a) ∙ holes_behind (yield_name n) _ (holes_name n) ∙ holes_arguments (map yield_expr args) a)

pub in_super_call : (l : List ℕ) (n : Option (List Ident)) (s : Span) (i : Ident) (args : List Expr) (b c : List FoundHole) → Finds l (each (map yield_expr args)) b c → Finds l (yield_first (firsts.SuperCall n s i args)) b c
in_super_call l n s i args b c = finds_same l (each (map yield_expr args)) (yield_first (firsts.SuperCall n s i args)) b c deeper (λ a. refl) (λ a. ap holes_of (yield_first-SuperCall n s i args a) ∙ holes_behind (yield_super n s i) _ (holes_super n s i) ∙ holes_arguments (map yield_expr args) a)

pub in_new : (l : List ℕ) (creation : Creation) (b c : List FoundHole) → Finds l (yield_creation creation) b c → Finds l (yield_first (firsts.New creation)) b c
in_new l creation b c = finds_same l (yield_creation creation) (yield_first (firsts.New creation)) b c (λ a. a) (λ a. refl) (λ a. ap holes_of (yield_first-New creation a))

pub in_new_sizes : (l : List ℕ) (element : ElementType) (sizes : List Expr) (dims : ℕ) (b c : List FoundHole) → Finds l (each (map yield_expr sizes)) b c → Finds l (yield_first (firsts.NewArray element sizes dims)) b c
in_new_sizes l element sizes dims b c = finds_same l (each (map yield_expr sizes)) (yield_first (firsts.NewArray element sizes dims)) b c deeper (λ a. refl) (λ a. ap holes_of (yield_first-NewArray element sizes dims a) ∙ holes_before (yield_element element ++ yield_sizes (map yield_expr sizes) a) (yield_dims dims) (holes_dims dims) ∙ holes_behind (yield_element element) (yield_sizes (map yield_expr sizes) a) (holes_element element) ∙ holes_sizes (map yield_expr sizes) a)

pub in_new_elements : (l : List ℕ) (element : ElementType) (dims : ℕ) (array : ArrayInitializer) (b c : List FoundHole) → Finds l (yield_array array) b c → Finds l (yield_first (firsts.NewArrayOf element dims array)) b c
in_new_elements l element dims array b c = finds_same l (yield_array array) (yield_first (firsts.NewArrayOf element dims array)) b c (λ a. a) (λ a. refl) (λ a. ap holes_of (yield_first-NewArrayOf element dims array a) ∙ holes_behind (yield_element element ++ yield_dims dims) (yield_array array a) (holes_behind (yield_element element) (yield_dims dims) (holes_element element) ∙ holes_dims dims))

pub in_literal : (l : List ℕ) (x : Literal) (b : List FoundHole) → Finds l (yield_first (firsts.Literal x)) b b
in_literal l x b = finds_nothing l (yield_first (firsts.Literal x)) b (λ a. ap holes_of (yield_first-Literal x a))

pub in_this : (l : List ℕ) (s : Span) (b : List FoundHole) → Finds l (yield_first (firsts.This s)) b b
in_this l s b = finds_nothing l (yield_first (firsts.This s)) b (λ a. ap holes_of (yield_first-This s a))

pub in_name : (l : List ℕ) (n : List Ident) (b : List FoundHole) → Finds l (yield_first (firsts.Name n)) b b
in_name l n b = finds_nothing l (yield_first (firsts.Name n)) b (λ a. ap holes_of (yield_first-Name n a) ∙ holes_name n)

pub in_class_literal : (l : List ℕ) (type : TypeUse) (b : List FoundHole) → Finds l (yield_first (firsts.ClassLiteral type)) b b
in_class_literal l type b = finds_nothing l (yield_first (firsts.ClassLiteral type)) b (λ a. ap holes_of (yield_first-ClassLiteral type a) ∙ holes_before (yield_type type) _ refl ∙ holes_type type)

pub in_void_class : (l : List ℕ) (b : List FoundHole) → Finds l (yield_first firsts.VoidClass) b b
in_void_class l b = finds_nothing l (yield_first firsts.VoidClass) b (λ a. ap holes_of (yield_first-VoidClass a))

pub in_qualified_this : (l : List ℕ) (n : List Ident) (s : Span) (b : List FoundHole) → Finds l (yield_first (firsts.QualifiedThis n s)) b b
in_qualified_this l n s b = finds_nothing l (yield_first (firsts.QualifiedThis n s)) b (λ a. ap holes_of (yield_first-QualifiedThis n s a) ∙ holes_before (yield_name n) _ refl ∙ holes_name n)

pub in_super_field : (l : List ℕ) (n : Option (List Ident)) (s : Span) (i : Ident) (b : List FoundHole) → Finds l (yield_first (firsts.SuperField n s i)) b b
in_super_field l n s i b = finds_nothing l (yield_first (firsts.SuperField n s i)) b (λ a. ap holes_of (yield_first-SuperField n s i a) ∙ holes_super n s i)

pub in_field : (l : List ℕ) (i : Ident) (b : List FoundHole) → Finds l (yield_selector (selectors.Field i)) b b
in_field l i b = finds_nothing l (yield_selector (selectors.Field i)) b (λ a. ap holes_of (yield_selector-Field i a))

pub in_member_call : (l : List ℕ) (i : Ident) (args : List Expr) (b c : List FoundHole) → Finds l (each (map yield_expr args)) b c → Finds l (yield_selector (selectors.MemberCall i args)) b c
in_member_call l i args b c = finds_same l (each (map yield_expr args)) (yield_selector (selectors.MemberCall i args)) b c deeper (λ a. refl) (λ a. ap holes_of (yield_selector-MemberCall i args a) ∙ holes_arguments (map yield_expr args) a)

pub in_index : (l : List ℕ) (x : Expr) (b c : List FoundHole) → Finds l (yield_expr x) b c → Finds l (yield_selector (selectors.Index x)) b c
in_index l x b c = finds_same l (yield_expr x) (yield_selector (selectors.Index x)) b c deeper (λ a. refl) (λ a. ap holes_of (yield_selector-Index x a) ∙ holes_before (yield_expr x (deeper a)) _ refl)

pub in_qualified_new : (l : List ℕ) (creation : Creation) (b c : List FoundHole) → Finds l (yield_creation creation) b c → Finds l (yield_selector (selectors.QualifiedNew creation)) b c
in_qualified_new l creation b c = finds_same l (yield_creation creation) (yield_selector (selectors.QualifiedNew creation)) b c (λ a. a) (λ a. refl) (λ a. ap holes_of (yield_selector-QualifiedNew creation a))

pub in_value : (l : List ℕ) (x : Expr) (b c : List FoundHole) → Finds l (yield_expr x) b c → Finds l (yield_initializer (initializers.Value x)) b c
in_value l x b c = finds_same l (yield_expr x) (yield_initializer (initializers.Value x)) b c deeper (λ a. refl) (λ a. ap holes_of (yield_initializer-Value x a))

pub in_array_value : (l : List ℕ) (array : ArrayInitializer) (b c : List FoundHole) → Finds l (yield_array array) b c → Finds l (yield_initializer (initializers.Array array)) b c
in_array_value l array b c = finds_same l (yield_array array) (yield_initializer (initializers.Array array)) b c (λ a. a) (λ a. refl) (λ a. ap holes_of (yield_initializer-Array array a))

pub in_all_elements : (l : List ℕ) (array : ArrayInitializer) (b c : List FoundHole) → Finds l (each (map yield_initializer array.elements)) b c → Finds l (yield_array array) b c
in_all_elements l array b c = finds_same l (each (map yield_initializer array.elements)) (yield_array array) b c deeper (λ a. refl) (λ a. ap holes_of (yield_array-parts array a) ∙ holes_before (parted (map yield_initializer array.elements) (deeper a) ++ yield_comma array.comma) (the marks.RightBrace ∷ []) refl ∙ holes_before (parted (map yield_initializer array.elements) (deeper a)) (yield_comma array.comma) (holes_comma array.comma) ∙ holes_parted (map yield_initializer array.elements) (deeper a))

pub in_no_body : (l : List ℕ) (n : List Ident) (b : List FoundHole) → Finds l (yield_body n None) b b
in_no_body l n b = finds_nothing l (yield_body n None) b (λ a. refl)

pub in_created : (l : List ℕ) (creation : Creation) (b m c : List FoundHole) → Finds l (each (map yield_expr creation.arguments)) b m → Finds l (yield_body creation.class creation.body) m c → Finds l (yield_creation creation) b c
in_created l creation b m c = finds_both l (each (map yield_expr creation.arguments)) (yield_body creation.class creation.body) (yield_creation creation) b m c deeper (λ a. a) (λ a. refl) (λ a. refl) (λ a. ap holes_of (yield_creation-parts creation a) ∙ holes_both (yield_name creation.class ++ yield_arguments (map yield_expr creation.arguments) a) (yield_body creation.class creation.body a) ∙ ap (λ hs. hs ++ holes_of (yield_body creation.class creation.body a)) (holes_behind (yield_name creation.class) (yield_arguments (map yield_expr creation.arguments) a) (holes_name creation.class) ∙ holes_arguments (map yield_expr creation.arguments) a))
