-- What is found in each form of a statement.
use Rattle.std.proofs.Common.{◌≡◌, ◌+◌, ◌<◌, ℕ, suc, Bool, true, false, List, [], ◌∷◌, ◌++◌, Option, Some, None, map, option_map, take, length, get_or, reverse, refl, sym, ap, ◌∙◌, subst, append_assoc, arith}
use Rattle.std.proofs.lemmas.List.{append-nil, reverse-append}
use Rattle.std.proofs.Math.Seq.{take-suc, take-append_seam}
use Rattle.java_tree.specs.declared.mark.Mark.TheVariants as marks
use Rattle.java_tree.specs.declared.names.Ident.{Ident}
use Rattle.java_tree.specs.declared.expr.Expr.{Expr}
use Rattle.java_tree.specs.declared.expr.Initializer.{Initializer}
use Rattle.java_tree.specs.declared.stmt.Block.{Block}
use Rattle.java_tree.specs.declared.stmt.BlockStatement.TheVariants as block_statements
use Rattle.java_tree.specs.declared.stmt.Catch.{Catch}
use Rattle.java_tree.specs.declared.stmt.ForInit.{ForInit}
use Rattle.java_tree.specs.declared.stmt.ForInit.TheVariants as inits
use Rattle.java_tree.specs.declared.stmt.IfArm.{IfArm}
use Rattle.java_tree.specs.declared.stmt.LocalVariables.{LocalVariables}
use Rattle.java_tree.specs.declared.stmt.Parameter.{Parameter}
use Rattle.java_tree.specs.declared.stmt.Stmt.{Stmt}
use Rattle.java_tree.specs.declared.stmt.Stmt.TheVariants as stmts
use Rattle.java_tree.specs.declared.stmt.SwitchGroup.{SwitchGroup}
use Rattle.java_tree.specs.declared.stmt.SwitchLabel.TheVariants as labels
use Rattle.java_tree.specs.declared.stmt.Variable.{Variable}
use Rattle.java_tree.specs.declared.unit.TypePlace.TheVariants as places
use Rattle.java_model.specs.Grammar.Pieces.{Yield, token, hole, the, Around, deeper, each, yield_dims, yield_type}
use Rattle.java_model.specs.Grammar.Signs.{word}
use Rattle.java_model.specs.Grammar.Runs.{holes_of}
use Rattle.java_model.specs.Grammar.YieldExpr.{yield_expr, yield_initializer}
use Rattle.java_model.specs.Grammar.YieldStmt.{Step, all_yield, all_leave, in_sequence, yield_final, yield_nested, yield_any_expr, yield_detail, yield_condition, yield_any_label, yield_any_initializer, yield_variable, yield_variables, yield_local, yield_parameter, yield_exprs, yield_for_init, yield_switch_label, behind_else, yield_arms, yield_else, yield_finally, yield_braced, yield_stmt, yield_block_statement, yield_block, yield_catch, yield_arm, yield_group}
use Rattle.java_model.proofs.Grammar.YieldStmt.{yield_arm-parts, yield_block-parts, yield_block_statement-Local, yield_block_statement-Local-leaves, yield_block_statement-LocalClass, yield_block_statement-LocalClass-leaves, yield_block_statement-Statement, yield_block_statement-Statement-leaves, yield_catch-parts, yield_group-parts, yield_group-parts-leaves, yield_stmt-Assert, yield_stmt-Block, yield_stmt-Break, yield_stmt-Continue, yield_stmt-Do, yield_stmt-Empty, yield_stmt-Expression, yield_stmt-For, yield_stmt-If, yield_stmt-Labeled, yield_stmt-Return, yield_stmt-Switch, yield_stmt-Synchronized, yield_stmt-Throw, yield_stmt-Try, yield_stmt-While}
use Rattle.java_document.specs.Holes.{kept, locals_in, Finds, Enters, Passes, Keeps}
use Rattle.java_document.specs.declared.hole.FoundHole.{FoundHole}
use Rattle.java_document.specs.declared.scope.Scope.{Scope}
use Rattle.java_document.proofs.Seeing.{holes_both, holes_behind, holes_before, holes_dims, holes_type, holes_parted, each_more, finds_nothing, finds_same, finds_both}

-- ---- pieces

holes_final : (b : Bool) → holes_of (yield_final b) ≡ []
holes_final true = refl
holes_final false = refl

holes_label : (i : Option Ident) → holes_of (yield_any_label i) ≡ []
holes_label None = refl
holes_label (Some i) = refl

pub holes_parameter : (p : Parameter) (a : Around) → holes_of (yield_parameter p a) ≡ []
holes_parameter p a =
    holes_behind (yield_final p.is_final ++ yield_type p.of) (token (word p.name) ∷ yield_dims p.dims) (holes_behind (yield_final p.is_final) (yield_type p.of) (holes_final p.is_final) ∙ holes_type p.of)
    ∙ holes_dims p.dims

holes_condition : (x : Expr) (a : Around) → holes_of (yield_condition x a) ≡ holes_of (yield_expr x (deeper a))
holes_condition x a = holes_before (yield_expr x (deeper a)) (the marks.RightParen ∷ []) refl

pub holes_variables : (vs : List Variable) (a : Around) → holes_of (yield_variables vs a) ≡ holes_of (each (map yield_variable vs) a)
holes_variables vs a = holes_parted (map yield_variable vs) a

holes_local : (l : LocalVariables) (a : Around) → holes_of (yield_local l a) ≡ holes_of (each (map yield_variable l.variables) a)
holes_local l a =
    holes_behind (yield_final l.is_final ++ yield_type l.of) (yield_variables l.variables a) (holes_behind (yield_final l.is_final) (yield_type l.of) (holes_final l.is_final) ∙ holes_type l.of)
    ∙ holes_variables l.variables a

each_nested : (xs : List Expr) (a : Around) → holes_of (each (map yield_nested xs) a) ≡ holes_of (each (map yield_expr xs) (deeper a))
each_nested [] a = refl
each_nested (x ∷ xs) a =
    holes_both (yield_expr x (deeper a)) (each (map yield_nested xs) a) ∙ ap (λ hs. holes_of (yield_expr x (deeper a)) ++ hs) (each_nested xs a)
    ∙ sym (holes_both (yield_expr x (deeper a)) (each (map yield_expr xs) (deeper a)))

holes_exprs : (xs : List Expr) (a : Around) → holes_of (yield_exprs xs a) ≡ holes_of (each (map yield_expr xs) (deeper a))
holes_exprs xs a = holes_parted (map yield_nested xs) a ∙ each_nested xs a

holes_behind_else : (ys : List Yield) (a : Around) → holes_of (behind_else ys a) ≡ holes_of (each ys a)
holes_behind_else [] a = refl
holes_behind_else (y ∷ ys) a = holes_both (y a) (behind_else ys a) ∙ ap (λ hs. holes_of (y a) ++ hs) (holes_behind_else ys a) ∙ sym (holes_both (y a) (each ys a))

holes_arms : (ys : List Yield) (a : Around) → holes_of (yield_arms ys a) ≡ holes_of (each ys a)
holes_arms [] a = refl
holes_arms (y ∷ ys) a = holes_both (y a) (behind_else ys a) ∙ ap (λ hs. holes_of (y a) ++ hs) (holes_behind_else ys a) ∙ sym (holes_both (y a) (each ys a))

holes_braced : (brace : ℕ) (ss : List Step) (a : Around) → holes_of (yield_braced brace ss a) ≡ holes_of (all_yield ss a)
holes_braced brace ss a = holes_before (all_yield ss a) (the marks.RightBrace ∷ []) refl

-- ---- scopes

same_locals : (s t : Scope) → t.base.now ≡ s.base.now → t.own.items ≡ s.own.items → locals_in t ≡ locals_in s
same_locals s t h g = ap (λ xs. reverse xs ++ t.base.now) g ∙ ap (λ xs. reverse s.own.items ++ xs) h

pub keeps_found : (s : Scope) (y : Yield) (b c : List FoundHole) → Finds (locals_in s) y b c → Keeps y s s b c
keeps_found s y b c h = record { base = refl; own = refl; finds = h }

pub keeps_nothing : (s : Scope) (y : Yield) (b : List FoundHole) → ((a : Around) → holes_of (y a) ≡ []) → Keeps y s s b b
keeps_nothing s y b h = keeps_found s y b b (finds_nothing (locals_in s) y b h)

pub keeps_same : (s t : Scope) (y z : Yield) (b c : List FoundHole) (f : Around → Around) → ((a : Around) → (f a).locals ≡ a.locals)
    → ((a : Around) → holes_of (z a) ≡ holes_of (y (f a))) → Keeps y s t b c → Keeps z s t b c
keeps_same s t y z b c f keeps same h = record { base = h.base; own = h.own; finds = finds_same (locals_in s) y z b c f keeps same h.finds }

pub keeps_both : (s m t : Scope) (x y z : Yield) (b n c : List FoundHole) (f g : Around → Around)
    → ((a : Around) → (f a).locals ≡ a.locals) → ((a : Around) → (g a).locals ≡ a.locals)
    → ((a : Around) → holes_of (z a) ≡ holes_of (x (f a)) ++ holes_of (y (g a))) → Keeps x s m b n → Keeps y m t n c → Keeps z s t b c
keeps_both s m t x y z b n c f g keeps holds same h k = record {
  base = k.base ∙ h.base;
  own = k.own ∙ h.own;
  finds = finds_both (locals_in s) x y z b n c f g keeps holds same h.finds (subst (λ ls. Finds ls y n c) (same_locals s m h.base h.own) k.finds);
}

map-append : {A B : Type 0} (f : A → B) (xs ys : List A) → map f (xs ++ ys) ≡ map f xs ++ map f ys
map-append f [] ys = refl
map-append f (x ∷ xs) ys = ap (λ zs. f x ∷ zs) (map-append f xs ys)

pub keeps_none : {A : Type 0} (s : Scope) (f : A → Yield) (b : List FoundHole) → Keeps (each (map f [])) s s b b
keeps_none s f b = keeps_nothing s (each (map f [])) b (λ a. refl)

pub keeps_next : {A : Type 0} (s m t : Scope) (f : A → Yield) (xs : List A) (i : ℕ) (x : A) (b n c : List FoundHole) → i < length xs
    → Keeps (each (map f (take i xs))) s m b n → Keeps (f (get_or xs i x)) m t n c → Keeps (each (map f (take (i + 1) xs))) s t b c
keeps_next s m t f xs i x b n c h before one =
    let next : i + 1 ≡ suc i = omega arith in
    subst (λ ys. Keeps (each (map f ys)) s t b c) (sym (ap (λ k. take k xs) next ∙ take-suc xs i x h))
    (keeps_both s m t (each (map f (take i xs))) (f (get_or xs i x)) (each (map f (take i xs ++ get_or xs i x ∷ []))) b n c (λ a. a) (λ a. a) (λ a. refl) (λ a. refl)
    (λ a. ap (λ ys. holes_of (each ys a)) (map-append f (take i xs) (get_or xs i x ∷ [])) ∙ each_more (map f (take i xs)) (f (get_or xs i x)) a) before one)

-- ---- scopes that grow

pub passes_kept : (s t : Scope) (step : Step) (b c : List FoundHole) (y : Yield) → ((a : Around) → holes_of (step.yields a) ≡ holes_of (y a))
    → ((a : Around) → (step.leaves a).locals ≡ a.locals) → Keeps y s t b c → Passes step s t b c
passes_kept s t step b c y same leaves h = record {
  enters = record { more = []; base = h.base; own = h.own ∙ sym (append-nil s.own.items) };
  finds = finds_same (locals_in s) y step.yields b c (λ a. a) (λ a. refl) same h.finds;
  leaves = λ a e. leaves a ∙ e ∙ sym (same_locals s t h.base h.own);
}

all_yield-append : (ss : List Step) (step : Step) (a : Around) → holes_of (all_yield (ss ++ step ∷ []) a) ≡ holes_of (all_yield ss a) ++ holes_of (step.yields (all_leave ss a))
all_yield-append [] step a = holes_before (step.yields a) [] refl
all_yield-append (s ∷ ss) step a =
    holes_both (s.yields a) (all_yield (ss ++ step ∷ []) (s.leaves a)) ∙ ap (λ hs. holes_of (s.yields a) ++ hs) (all_yield-append ss step (s.leaves a))
    ∙ sym (append_assoc (holes_of (s.yields a)) (holes_of (all_yield ss (s.leaves a))) (holes_of (step.yields (all_leave ss (s.leaves a)))))
    ∙ ap (λ hs. hs ++ holes_of (step.yields (all_leave ss (s.leaves a)))) (sym (holes_both (s.yields a) (all_yield ss (s.leaves a))))

all_leave-append : (ss : List Step) (step : Step) (a : Around) → all_leave (ss ++ step ∷ []) a ≡ step.leaves (all_leave ss a)
all_leave-append [] step a = refl
all_leave-append (s ∷ ss) step a = all_leave-append ss step (s.leaves a)

pub passes_none : {A : Type 0} (s : Scope) (f : A → Step) (b : List FoundHole) → Passes (in_sequence (map f [])) s s b b
passes_none s f b = record {
  enters = record { more = []; base = refl; own = sym (append-nil s.own.items) };
  finds = finds_nothing (locals_in s) (λ a. []) b (λ a. refl);
  leaves = λ a e. e;
}

enters_both : (s m t : Scope) → Enters s m → Enters m t → Enters s t
enters_both s m t h k = record {
  more = h.more ++ k.more;
  base = k.base ∙ h.base;
  own = k.own ∙ ap (λ xs. xs ++ k.more) h.own ∙ append_assoc s.own.items h.more k.more;
}

-- what stands where the local classes of what is before are in scope
finds_step : (l k : List ℕ) (ss : List Step) (step : Step) (b n c : List FoundHole) → ((a : Around) → a.locals ≡ l → (all_leave ss a).locals ≡ k)
    → Finds l (all_yield ss) b n → Finds k step.yields n c → Finds l (all_yield (ss ++ step ∷ [])) b c
finds_step l k ss step b n c leaves h g = record {
  found = λ a e.
      g.found (all_leave ss a) (leaves a e) ∙ ap (λ fs. fs ++ map kept (holes_of (step.yields (all_leave ss a)))) (h.found a e)
      ∙ append_assoc b (map kept (holes_of (all_yield ss a))) (map kept (holes_of (step.yields (all_leave ss a))))
      ∙ ap (λ fs. b ++ fs) (sym (map-append kept (holes_of (all_yield ss a)) (holes_of (step.yields (all_leave ss a)))))
      ∙ ap (λ hs. b ++ map kept hs) (sym (all_yield-append ss step a));
}

passes_more : (s m t : Scope) (ss : List Step) (step : Step) (b n c : List FoundHole) → Passes (in_sequence ss) s m b n → Passes step m t n c → Passes (in_sequence (ss ++ step ∷ [])) s t b c
passes_more s m t ss step b n c h k = record {
  enters = enters_both s m t h.enters k.enters;
  finds = finds_step (locals_in s) (locals_in m) ss step b n c h.leaves h.finds k.finds;
  leaves = λ a e. ap (λ x. x.locals) (all_leave-append ss step a) ∙ k.leaves (all_leave ss a) (h.leaves a e);
}

pub passes_next : {A : Type 0} (s m t : Scope) (f : A → Step) (xs : List A) (i : ℕ) (x : A) (b n c : List FoundHole) → i < length xs
    → Passes (in_sequence (map f (take i xs))) s m b n → Passes (f (get_or xs i x)) m t n c → Passes (in_sequence (map f (take (i + 1) xs))) s t b c
passes_next s m t f xs i x b n c h before one =
    let next : i + 1 ≡ suc i = omega arith in
    subst (λ ys. Passes (in_sequence (map f ys)) s t b c) (sym (ap (λ k. take k xs) next ∙ take-suc xs i x h))
    (subst (λ ys. Passes (in_sequence ys) s t b c) (sym (map-append f (take i xs) (get_or xs i x ∷ [])))
    (passes_more s m t (map f (take i xs)) (f (get_or xs i x)) b n c before one))

-- a block ends
pub keeps_block : (s m t : Scope) (step : Step) (y : Yield) (b c : List FoundHole) → ((a : Around) → holes_of (y a) ≡ holes_of (step.yields a)) → Passes step s m b c
    → t.base.now ≡ m.base.now → t.own.items ≡ take (length s.own.items) m.own.items → Keeps y s t b c
keeps_block s m t step y b c same h base own = record {
  base = base ∙ h.enters.base;
  own = own ∙ ap (take (length s.own.items)) h.enters.own ∙ take-append_seam s.own.items h.enters.more;
  finds = finds_same (locals_in s) step.yields y b c (λ a. a) (λ a. refl) same h.finds;
}

-- ---- forms

pub in_no_expr : (l : List ℕ) (b : List FoundHole) → Finds l (yield_any_expr None) b b
in_no_expr l b = finds_nothing l (yield_any_expr None) b (λ a. refl)

pub in_some_expr : (l : List ℕ) (x : Expr) (b c : List FoundHole) → Finds l (yield_expr x) b c → Finds l (yield_any_expr (Some x)) b c
in_some_expr l x b c = finds_same l (yield_expr x) (yield_any_expr (Some x)) b c deeper (λ a. refl) (λ a. refl)

pub in_no_detail : (l : List ℕ) (b : List FoundHole) → Finds l (yield_detail None) b b
in_no_detail l b = finds_nothing l (yield_detail None) b (λ a. refl)

pub in_detail : (l : List ℕ) (x : Option Expr) (b c : List FoundHole) → Finds l (yield_any_expr x) b c → Finds l (yield_detail x) b c
in_detail l None b c = finds_same l (yield_any_expr None) (yield_detail None) b c (λ a. a) (λ a. refl) (λ a. refl)
in_detail l (Some x) b c = finds_same l (yield_any_expr (Some x)) (yield_detail (Some x)) b c (λ a. a) (λ a. refl) (λ a. refl)

pub in_bare_variable : (l : List ℕ) (v : Variable) (b : List FoundHole) → v.initializer ≡ None → Finds l (yield_variable v) b b
in_bare_variable l v b e =
    finds_nothing l (yield_variable v) b
    (λ a. holes_behind (yield_dims v.dims) (yield_any_initializer v.initializer a) (holes_dims v.dims) ∙ ap (λ i. holes_of (yield_any_initializer i a)) e)

pub in_set_variable : (l : List ℕ) (v : Variable) (i : Initializer) (b c : List FoundHole) → v.initializer ≡ Some i → Finds l (yield_initializer i) b c → Finds l (yield_variable v) b c
in_set_variable l v i b c e =
    finds_same l (yield_initializer i) (yield_variable v) b c (λ a. a) (λ a. refl)
    (λ a. holes_behind (yield_dims v.dims) (yield_any_initializer v.initializer a) (holes_dims v.dims) ∙ ap (λ i. holes_of (yield_any_initializer i a)) e)

pub in_local_init : (l : List ℕ) (v : LocalVariables) (b c : List FoundHole) → Finds l (each (map yield_variable v.variables)) b c → Finds l (yield_for_init (inits.Local v)) b c
in_local_init l v b c = finds_same l (each (map yield_variable v.variables)) (yield_for_init (inits.Local v)) b c (λ a. a) (λ a. refl) (λ a. holes_local v a)

pub in_expressions_init : (l : List ℕ) (xs : List Expr) (b c : List FoundHole) → Finds l (each (map yield_expr xs)) b c → Finds l (yield_for_init (inits.Expressions xs)) b c
in_expressions_init l xs b c = finds_same l (each (map yield_expr xs)) (yield_for_init (inits.Expressions xs)) b c deeper (λ a. refl) (λ a. holes_exprs xs a)

pub in_case : (l : List ℕ) (x : Expr) (b c : List FoundHole) → Finds l (yield_expr x) b c → Finds l (yield_switch_label (labels.Case x)) b c
in_case l x b c = finds_same l (yield_expr x) (yield_switch_label (labels.Case x)) b c deeper (λ a. refl) (λ a. holes_before (yield_expr x (deeper a)) (the marks.Colon ∷ []) refl)

pub in_default : (l : List ℕ) (b : List FoundHole) → Finds l (yield_switch_label labels.Default) b b
in_default l b = finds_nothing l (yield_switch_label labels.Default) b (λ a. refl)

pub in_local_class : (s t : Scope) (brace : ℕ) (b c : List FoundHole) → Finds (locals_in s) (λ a. hole (record { brace = brace; place = places.Local; created = []; around = a }) ∷ []) b c
    → t.base.now ≡ s.base.now → t.own.items ≡ s.own.items ++ brace ∷ [] → Passes (yield_block_statement (block_statements.LocalClass brace)) s t b c
in_local_class s t brace b c h base own = record {
  enters = record { more = brace ∷ []; base = base; own = own };
  finds = finds_same (locals_in s) (λ a. hole (record { brace = brace; place = places.Local; created = []; around = a }) ∷ []) (yield_block_statement (block_statements.LocalClass brace)).yields b c
      (λ a. a) (λ a. refl) (λ a. ap holes_of (yield_block_statement-LocalClass brace a)) h;
  leaves = λ a e.
      ap (λ x. x.locals) (yield_block_statement-LocalClass-leaves brace a) ∙ ap (λ ls. brace ∷ ls) e
      ∙ sym (ap (λ xs. reverse xs ++ t.base.now) own ∙ ap (λ xs. xs ++ t.base.now) (reverse-append s.own.items (brace ∷ [])) ∙ ap (λ xs. (brace ∷ reverse s.own.items) ++ xs) base);
}

pub in_local_variables : (s : Scope) (v : LocalVariables) (b c : List FoundHole) → Finds (locals_in s) (each (map yield_variable v.variables)) b c → Passes (yield_block_statement (block_statements.Local v)) s s b c
in_local_variables s v b c h =
    passes_kept s s (yield_block_statement (block_statements.Local v)) b c (each (map yield_variable v.variables))
    (λ a. ap holes_of (yield_block_statement-Local v a) ∙ holes_before (yield_local v a) (the marks.Semicolon ∷ []) refl ∙ holes_local v a)
    (λ a. ap (λ x. x.locals) (yield_block_statement-Local-leaves v a)) (keeps_found s (each (map yield_variable v.variables)) b c h)

pub in_statement : (s t : Scope) (x : Stmt) (b c : List FoundHole) → Keeps (yield_stmt x) s t b c → Passes (yield_block_statement (block_statements.Statement x)) s t b c
in_statement s t x b c h =
    passes_kept s t (yield_block_statement (block_statements.Statement x)) b c (λ a. yield_stmt x (deeper a)) (λ a. ap holes_of (yield_block_statement-Statement x a))
    (λ a. ap (λ x. x.locals) (yield_block_statement-Statement-leaves x a)) (keeps_same s t (yield_stmt x) (λ a. yield_stmt x (deeper a)) b c deeper (λ a. refl) (λ a. refl) h)

pub in_block_of : (s t : Scope) (k : Block) (b c : List FoundHole) → Keeps (yield_block k) s t b c → Keeps (yield_stmt (stmts.Block k)) s t b c
in_block_of s t k b c = keeps_same s t (yield_block k) (yield_stmt (stmts.Block k)) b c (λ a. a) (λ a. refl) (λ a. ap holes_of (yield_stmt-Block k a))

pub in_labeled : (s t : Scope) (i : Ident) (x : Stmt) (b c : List FoundHole) → Keeps (yield_stmt x) s t b c → Keeps (yield_stmt (stmts.Labeled i x)) s t b c
in_labeled s t i x b c = keeps_same s t (yield_stmt x) (yield_stmt (stmts.Labeled i x)) b c deeper (λ a. refl) (λ a. ap holes_of (yield_stmt-Labeled i x a))

pub in_expression : (s : Scope) (x : Expr) (b c : List FoundHole) → Finds (locals_in s) (yield_expr x) b c → Keeps (yield_stmt (stmts.Expression x)) s s b c
in_expression s x b c h = keeps_same s s (yield_expr x) (yield_stmt (stmts.Expression x)) b c deeper (λ a. refl) (λ a. ap holes_of (yield_stmt-Expression x a) ∙ holes_before (yield_expr x (deeper a)) (the marks.Semicolon ∷ []) refl) (keeps_found s (yield_expr x) b c h)

pub in_if : (s m t : Scope) (arms : List IfArm) (last : Option Stmt) (b n c : List FoundHole) → Keeps (each (map yield_arm arms)) s m b n → Keeps (yield_else (option_map yield_stmt last)) m t n c → Keeps (yield_stmt (stmts.If arms last)) s t b c
in_if s m t arms last b n c = keeps_both s m t (each (map yield_arm arms)) (yield_else (option_map yield_stmt last)) (yield_stmt (stmts.If arms last)) b n c (λ a. a) (λ a. a) (λ a. refl) (λ a. refl) (λ a. ap holes_of (yield_stmt-If arms last a) ∙ holes_both (yield_arms (map yield_arm arms) a) (yield_else (option_map yield_stmt last) a) ∙ ap (λ hs. hs ++ holes_of (yield_else (option_map yield_stmt last) a)) (holes_arms (map yield_arm arms) a))

pub in_while : (s t : Scope) (x : Expr) (y : Stmt) (b n c : List FoundHole) → Finds (locals_in s) (yield_expr x) b n → Keeps (yield_stmt y) s t n c → Keeps (yield_stmt (stmts.While x y)) s t b c
in_while s t x y b n c h =
    keeps_both s s t (yield_expr x) (yield_stmt y) (yield_stmt (stmts.While x y)) b n c deeper deeper (λ a. refl) (λ a. refl) (λ a. ap holes_of (yield_stmt-While x y a) ∙ holes_both (yield_condition x a) (yield_stmt y (deeper a)) ∙ ap (λ hs. hs ++ holes_of (yield_stmt y (deeper a))) (holes_condition x a))
    (keeps_found s (yield_expr x) b n h)

pub in_do : (s t : Scope) (y : Stmt) (x : Expr) (b n c : List FoundHole) → Keeps (yield_stmt y) s t b n → Finds (locals_in t) (yield_expr x) n c → Keeps (yield_stmt (stmts.Do y x)) s t b c
in_do s t y x b n c h k =
    keeps_both s t t (yield_stmt y) (yield_expr x) (yield_stmt (stmts.Do y x)) b n c deeper deeper (λ a. refl) (λ a. refl)
    (λ a. ap holes_of (yield_stmt-Do y x a) ∙ holes_both (yield_stmt y (deeper a)) (the marks.While ∷ (yield_condition x a ++ the marks.Semicolon ∷ []))
    ∙ ap (λ hs. holes_of (yield_stmt y (deeper a)) ++ hs) (holes_before (yield_condition x a) (the marks.Semicolon ∷ []) refl ∙ holes_condition x a))
    h (keeps_found t (yield_expr x) n c k)

-- the parts of a `for`, from the last one on
for_update : List Expr → Stmt → Yield
for_update update y a = yield_exprs update a ++ the marks.RightParen ∷ yield_stmt y (deeper a)

for_test : Option Expr → List Expr → Stmt → Yield
for_test test update y a = yield_any_expr test a ++ the marks.Semicolon ∷ (yield_exprs update a ++ the marks.RightParen ∷ yield_stmt y (deeper a))

pub in_for : (s t : Scope) (init : ForInit) (test : Option Expr) (update : List Expr) (y : Stmt) (b m n o c : List FoundHole)
    → Finds (locals_in s) (yield_for_init init) b m → Finds (locals_in s) (yield_any_expr test) m n → Finds (locals_in s) (each (map yield_expr update)) n o → Keeps (yield_stmt y) s t o c
    → Keeps (yield_stmt (stmts.For init test update y)) s t b c
unfolding for_update for_test
in_for s t init test update y b m n o c h g k l =
    keeps_both s s t (yield_for_init init) (for_test test update y) (yield_stmt (stmts.For init test update y)) b m c (λ a. a) (λ a. a) (λ a. refl) (λ a. refl)
    (λ a. ap holes_of (yield_stmt-For init test update y a) ∙ holes_both (yield_for_init init a) (the marks.Semicolon ∷ for_test test update y a)) (keeps_found s (yield_for_init init) b m h)
    (keeps_both s s t (yield_any_expr test) (for_update update y) (for_test test update y) m n c (λ a. a) (λ a. a) (λ a. refl) (λ a. refl)
    (λ a. holes_both (yield_any_expr test a) (the marks.Semicolon ∷ for_update update y a)) (keeps_found s (yield_any_expr test) m n g)
    (keeps_both s s t (each (map yield_expr update)) (yield_stmt y) (for_update update y) n o c deeper deeper (λ a. refl) (λ a. refl)
    (λ a. holes_both (yield_exprs update a) (the marks.RightParen ∷ yield_stmt y (deeper a)) ∙ ap (λ hs. hs ++ holes_of (yield_stmt y (deeper a))) (holes_exprs update a))
    (keeps_found s (each (map yield_expr update)) n o k) l))

pub in_switch : (s t : Scope) (x : Expr) (brace : ℕ) (groups : List SwitchGroup) (b n c : List FoundHole) → Finds (locals_in s) (yield_expr x) b n → Keeps (all_yield (map yield_group groups)) s t n c → Keeps (yield_stmt (stmts.Switch x brace groups)) s t b c
in_switch s t x brace groups b n c h =
    keeps_both s s t (yield_expr x) (all_yield (map yield_group groups)) (yield_stmt (stmts.Switch x brace groups)) b n c deeper (λ a. a) (λ a. refl) (λ a. refl) (λ a. ap holes_of (yield_stmt-Switch x brace groups a) ∙ holes_both (yield_condition x a) (yield_braced brace (map yield_group groups) a) ∙ ap (λ hs. hs ++ holes_of (yield_braced brace (map yield_group groups) a)) (holes_condition x a) ∙ ap (λ hs. holes_of (yield_expr x (deeper a)) ++ hs) (holes_braced brace (map yield_group groups) a))
    (keeps_found s (yield_expr x) b n h)

pub in_return : (s : Scope) (x : Option Expr) (b c : List FoundHole) → Finds (locals_in s) (yield_any_expr x) b c → Keeps (yield_stmt (stmts.Return x)) s s b c
in_return s x b c h = keeps_same s s (yield_any_expr x) (yield_stmt (stmts.Return x)) b c (λ a. a) (λ a. refl) (λ a. ap holes_of (yield_stmt-Return x a) ∙ holes_before (yield_any_expr x a) (the marks.Semicolon ∷ []) refl) (keeps_found s (yield_any_expr x) b c h)

pub in_throw : (s : Scope) (x : Expr) (b c : List FoundHole) → Finds (locals_in s) (yield_expr x) b c → Keeps (yield_stmt (stmts.Throw x)) s s b c
in_throw s x b c h = keeps_same s s (yield_expr x) (yield_stmt (stmts.Throw x)) b c deeper (λ a. refl) (λ a. ap holes_of (yield_stmt-Throw x a) ∙ holes_before (yield_expr x (deeper a)) (the marks.Semicolon ∷ []) refl) (keeps_found s (yield_expr x) b c h)

pub in_synchronized : (s t : Scope) (x : Expr) (k : Block) (b n c : List FoundHole) → Finds (locals_in s) (yield_expr x) b n → Keeps (yield_block k) s t n c → Keeps (yield_stmt (stmts.Synchronized x k)) s t b c
in_synchronized s t x k b n c h =
    keeps_both s s t (yield_expr x) (yield_block k) (yield_stmt (stmts.Synchronized x k)) b n c deeper (λ a. a) (λ a. refl) (λ a. refl) (λ a. ap holes_of (yield_stmt-Synchronized x k a) ∙ holes_both (yield_condition x a) (yield_block k a) ∙ ap (λ hs. hs ++ holes_of (yield_block k a)) (holes_condition x a))
    (keeps_found s (yield_expr x) b n h)

pub in_try : (s m n t : Scope) (k : Block) (catches : List Catch) (last : Option Block) (b o p c : List FoundHole)
    → Keeps (yield_block k) s m b o → Keeps (each (map yield_catch catches)) m n o p → Keeps (yield_finally (option_map yield_block last)) n t p c
    → Keeps (yield_stmt (stmts.Try k catches last)) s t b c
in_try s m n t k catches last b o p c h g f =
    keeps_both s n t (λ a. yield_block k a ++ each (map yield_catch catches) a) (yield_finally (option_map yield_block last)) (yield_stmt (stmts.Try k catches last)) b p c
    (λ a. a) (λ a. a) (λ a. refl) (λ a. refl)
    (λ a. ap holes_of (yield_stmt-Try k catches last a) ∙ holes_both (yield_block k a ++ each (map yield_catch catches) a) (yield_finally (option_map yield_block last) a))
    (keeps_both s m n (yield_block k) (each (map yield_catch catches)) (λ a. yield_block k a ++ each (map yield_catch catches) a) b o p (λ a. a) (λ a. a) (λ a. refl) (λ a. refl)
    (λ a. holes_both (yield_block k a) (each (map yield_catch catches) a)) h g)
    f

pub in_assert : (s : Scope) (x : Expr) (y : Option Expr) (b n c : List FoundHole) → Finds (locals_in s) (yield_expr x) b n → Finds (locals_in s) (yield_any_expr y) n c → Keeps (yield_stmt (stmts.Assert x y)) s s b c
in_assert s x y b n c h g =
    keeps_both s s s (yield_expr x) (yield_detail y) (yield_stmt (stmts.Assert x y)) b n c deeper (λ a. a) (λ a. refl) (λ a. refl)
    (λ a. ap holes_of (yield_stmt-Assert x y a) ∙ holes_before (yield_expr x (deeper a) ++ yield_detail y a) (the marks.Semicolon ∷ []) refl ∙ holes_both (yield_expr x (deeper a)) (yield_detail y a))
    (keeps_found s (yield_expr x) b n h) (keeps_found s (yield_detail y) n c (in_detail (locals_in s) y n c g))

pub in_empty : (s : Scope) (b : List FoundHole) → Keeps (yield_stmt stmts.Empty) s s b b
in_empty s b = keeps_nothing s (yield_stmt stmts.Empty) b (λ a. ap holes_of (yield_stmt-Empty a))

pub in_break : (s : Scope) (i : Option Ident) (b : List FoundHole) → Keeps (yield_stmt (stmts.Break i)) s s b b
in_break s i b = keeps_nothing s (yield_stmt (stmts.Break i)) b (λ a. ap holes_of (yield_stmt-Break i a) ∙ holes_before (yield_any_label i) (the marks.Semicolon ∷ []) refl ∙ holes_label i)

pub in_continue : (s : Scope) (i : Option Ident) (b : List FoundHole) → Keeps (yield_stmt (stmts.Continue i)) s s b b
in_continue s i b = keeps_nothing s (yield_stmt (stmts.Continue i)) b (λ a. ap holes_of (yield_stmt-Continue i a) ∙ holes_before (yield_any_label i) (the marks.Semicolon ∷ []) refl ∙ holes_label i)

pub in_arm_parts : (s t : Scope) (arm : IfArm) (b n c : List FoundHole) → Finds (locals_in s) (yield_expr arm.condition) b n → Keeps (yield_stmt arm.then) s t n c → Keeps (yield_arm arm) s t b c
in_arm_parts s t arm b n c h =
    keeps_both s s t (yield_expr arm.condition) (yield_stmt arm.then) (yield_arm arm) b n c deeper deeper (λ a. refl) (λ a. refl)
    (λ a. ap holes_of (yield_arm-parts arm a) ∙ holes_both (yield_condition arm.condition a) (yield_stmt arm.then (deeper a))
    ∙ ap (λ hs. hs ++ holes_of (yield_stmt arm.then (deeper a))) (holes_condition arm.condition a))
    (keeps_found s (yield_expr arm.condition) b n h)

pub in_no_last : (s : Scope) (b : List FoundHole) → Keeps (yield_else None) s s b b
in_no_last s b = keeps_nothing s (yield_else None) b (λ a. refl)

pub in_some_last : (s t : Scope) (x : Stmt) (b c : List FoundHole) → Keeps (yield_stmt x) s t b c → Keeps (yield_else (Some (yield_stmt x))) s t b c
in_some_last s t x b c = keeps_same s t (yield_stmt x) (yield_else (Some (yield_stmt x))) b c (λ a. a) (λ a. refl) (λ a. refl)

pub in_no_finally : (s : Scope) (b : List FoundHole) → Keeps (yield_finally None) s s b b
in_no_finally s b = keeps_nothing s (yield_finally None) b (λ a. refl)

pub in_some_finally : (s t : Scope) (k : Block) (b c : List FoundHole) → Keeps (yield_block k) s t b c → Keeps (yield_finally (Some (yield_block k))) s t b c
in_some_finally s t k b c = keeps_same s t (yield_block k) (yield_finally (Some (yield_block k))) b c (λ a. a) (λ a. refl) (λ a. refl)

pub in_catch_block : (s t : Scope) (x : Catch) (b c : List FoundHole) → Keeps (yield_block x.block) s t b c → Keeps (yield_catch x) s t b c
in_catch_block s t x b c =
    keeps_same s t (yield_block x.block) (yield_catch x) b c (λ a. a) (λ a. refl)
    (λ a. ap holes_of (yield_catch-parts x a) ∙ holes_behind (yield_parameter x.parameter a) (the marks.RightParen ∷ yield_block x.block a) (holes_parameter x.parameter a))

pub in_ended_block : (s m t : Scope) (k : Block) (b c : List FoundHole) → Passes (in_sequence (map yield_block_statement k.statements)) s m b c
    → t.base.now ≡ m.base.now → t.own.items ≡ take (length s.own.items) m.own.items → Keeps (yield_block k) s t b c
in_ended_block s m t k b c =
    keeps_block s m t (in_sequence (map yield_block_statement k.statements)) (yield_block k) b c
    (λ a. ap holes_of (yield_block-parts k a) ∙ holes_braced k.brace (map yield_block_statement k.statements) a)

pub in_ended_groups : (s m t : Scope) (gs : List SwitchGroup) (b c : List FoundHole) → Passes (in_sequence (map yield_group gs)) s m b c
    → t.base.now ≡ m.base.now → t.own.items ≡ take (length s.own.items) m.own.items → Keeps (all_yield (map yield_group gs)) s t b c
in_ended_groups s m t gs b c = keeps_block s m t (in_sequence (map yield_group gs)) (all_yield (map yield_group gs)) b c (λ a. refl)

pub in_group_parts : (s t : Scope) (g : SwitchGroup) (b n c : List FoundHole) → Finds (locals_in s) (yield_switch_label g.label) b n
    → Passes (in_sequence (map yield_block_statement g.statements)) s t n c → Passes (yield_group g) s t b c
in_group_parts s t g b n c h k = record {
  enters = k.enters;
  finds = finds_both (locals_in s) (yield_switch_label g.label) (all_yield (map yield_block_statement g.statements)) (yield_group g).yields b n c (λ a. a) (λ a. a) (λ a. refl) (λ a. refl)
      (λ a. ap holes_of (yield_group-parts g a) ∙ holes_both (yield_switch_label g.label a) (all_yield (map yield_block_statement g.statements) a)) h k.finds;
  leaves = λ a e. ap (λ x. x.locals) (yield_group-parts-leaves g a) ∙ k.leaves a e;
}
