-- What the parser's answers say of the tokens, from what they were read as.
use Rattle.std.proofs.Common.{◌≡◌, ℕ, ◌+◌, ◌-◌, ◌≤◌, List, length, drop, Result, Ok, Err, refl, sym, ap, ◌∙◌, arith}
use Rattle.std.specs.Prelude.{IfOk, IsErrOf}
use Rattle.java_tree.specs.declared.expr.ArrayInitializer.{ArrayInitializer}
use Rattle.java_tree.specs.declared.expr.Expr.{Expr}
use Rattle.java_tree.specs.declared.expr.Primary.{Primary}
use Rattle.java_model.specs.Grammar.Signs.{Sign}
use Rattle.java_model.specs.Grammar.Pieces.{Around}
use Rattle.java_model.specs.Grammar.YieldExpr.{yield_array}
use Rattle.java_model.specs.Grammar.Runs.{above}
use Rattle.java_expr_reading.specs.Input.{Input, next, Done}
use Rattle.java_expr_reading.specs.Reading.Expressions.{read_nest, read_goal, read_qualifier}
use Rattle.java_expr_reading.specs.Answers.{expr_end, primary_end, CountsSteps, CountsPrimarySteps, GoalStandsAt, IsFound, IsThatUnlessMemory, NoneStandsAt, PrimaryStandsAt, IsFoundPrimary, IsThatPrimaryUnlessMemory, NoPrimaryStandsAt, input_at, IsReadAs, IsPrimaryReadAs}
use Rattle.java_expr_reading.specs.declared.fault.ExprFault.{ExprFault}
use Rattle.java_expr_reading.specs.declared.fault.ExprFault.TheVariants.{NoExpr, NoMemory}
use Rattle.java_expr_reading.specs.declared.parsed.Goal.{Goal}
use Rattle.java_expr_reading.specs.declared.parsed.ParsedExpr.{ParsedExpr}
use Rattle.java_expr_reading.specs.declared.parsed.PendingBody.{PendingBody}
use Rattle.java_expr_reading.specs.declared.parsed.ParsedPrimary.{ParsedPrimary}
use Rattle.java_expr_reading.proofs.Taken.{done, done_value, done_input}
use Rattle.java_expr_reading.proofs.Tokens.{fails}
use Rattle.java_expr_reading.proofs.ExprSound.{nest-sound}
use Rattle.java_expr_reading.proofs.Standing.{within, start, same_place, expr-stands, goal_stands, goal-read, primary-stands, primary-read}
use Rattle.java_expr_reading.proofs.Places.{IsAt, fit-leaves}
use Rattle.java_expr_reading.proofs.GoalLaws.{read_goal-parts}

-- ---- the clauses of a call

no_memory : {C : Type 0} → NoExpr ≡ NoMemory → C
no_memory e = absurd cc

pub expr_is_found : (goal : Goal) (tokens : List Sign) (at depth : ℕ) (r : Result ParsedExpr ExprFault) → at ≤ length tokens
    → IsReadAs tokens (read_goal goal (256 - depth) (input_at tokens at)) r → IfOk r (IsFound goal tokens at depth)
expr_is_found goal tokens at depth (Ok p) h e =
    let end : Input = record { rest = drop p.next tokens; at = p.next; bodies = p.bodies } in
    let parts = read_goal-parts goal (256 - depth) p.expr (input_at tokens at) end e in
    let s = expr-stands tokens at depth p.expr end h parts.read parts.ends in
    record { stands = goal_stands goal tokens at depth p.next p.expr s.stands parts.meets; bodies = s.bodies }
expr_is_found goal tokens at depth (Err fault) h e = tt

-- where the answer ends lies in the tokens
ends_within : (goal : Goal) (tokens : List Sign) (at depth : ℕ) (p : ParsedExpr) → at ≤ length tokens
    → read_goal goal (256 - depth) (input_at tokens at) ≡ Done p.expr (record { rest = drop p.next tokens; at = p.next; bodies = p.bodies }) → p.next ≤ length tokens
ends_within goal tokens at depth p h e =
    let end : Input = record { rest = drop p.next tokens; at = p.next; bodies = p.bodies } in
    let parts = read_goal-parts goal (256 - depth) p.expr (input_at tokens at) end e in
    let s = expr-stands tokens at depth p.expr end h parts.read parts.ends in
    let t = s.there in t.within

pub expr_is_complete : (goal : Goal) (tokens : List Sign) (at depth : ℕ) (r : Result ParsedExpr ExprFault) → at ≤ length tokens
    → IsReadAs tokens (read_goal goal (256 - depth) (input_at tokens at)) r
    → (x : Expr) (next : ℕ) → GoalStandsAt goal tokens at depth next x → IsThatUnlessMemory r x next
expr_is_complete goal tokens at depth (Ok p) h e x next stands =
    let end : Input = record { rest = drop p.next tokens; at = p.next; bodies = p.bodies } in
    goal-read goal tokens at depth next x stands (λ j read rest inside.
    let both : done p.expr end ≡ done x j = sym e ∙ read in
    let same : drop p.next tokens ≡ drop next tokens = ap (λ i. i.rest) (done_input p.expr x end j both) ∙ rest in
    (done_value p.expr x end j both, same_place tokens p.next next (ends_within goal tokens at depth p h e) inside same))
expr_is_complete goal tokens at depth (Err NoMemory) h e x next stands = refl
expr_is_complete goal tokens at depth (Err NoExpr) h e x next stands =
    goal-read goal tokens at depth next x stands (λ j read rest inside. fails x j (sym (e no_memory) ∙ read))

pub none_stands : (goal : Goal) (tokens : List Sign) (at depth : ℕ) (r : Result ParsedExpr ExprFault)
    → IsReadAs tokens (read_goal goal (256 - depth) (input_at tokens at)) r → IsErrOf r NoExpr → NoneStandsAt goal tokens at depth
none_stands goal tokens at depth (Ok p) e is x next stands = absurd cc
none_stands goal tokens at depth (Err NoMemory) e is x next stands = absurd cc
none_stands goal tokens at depth (Err NoExpr) e is x next stands =
    goal-read goal tokens at depth next x stands (λ j read rest inside. fails x j (sym (e no_memory) ∙ read))

-- ---- the same of a primary expression

pub primary_is_found : (tokens : List Sign) (at depth : ℕ) (r : Result ParsedPrimary ExprFault) → at ≤ length tokens
    → IsPrimaryReadAs tokens (read_qualifier (256 - depth) (input_at tokens at)) r → IfOk r (IsFoundPrimary tokens at depth)
primary_is_found tokens at depth (Ok p) h e =
    let s = primary-stands tokens at depth p.primary (record { rest = drop p.next tokens; at = p.next; bodies = p.bodies }) h e in
    record { stands = s.stands; bodies = s.bodies }
primary_is_found tokens at depth (Err fault) h e = tt

pub primary_is_complete : (tokens : List Sign) (at depth : ℕ) (r : Result ParsedPrimary ExprFault) → at ≤ length tokens
    → IsPrimaryReadAs tokens (read_qualifier (256 - depth) (input_at tokens at)) r
    → (p : Primary) (next : ℕ) → PrimaryStandsAt tokens at depth next p → IsThatPrimaryUnlessMemory r p next
primary_is_complete tokens at depth (Ok found) h e p next stands =
    let end : Input = record { rest = drop found.next tokens; at = found.next; bodies = found.bodies } in
    let s = primary-stands tokens at depth found.primary end h e in
    let t = s.there in
    primary-read tokens at depth next p stands (λ j read rest.
    let both : done found.primary end ≡ done p j = sym e ∙ read in
    let same : drop found.next tokens ≡ drop next tokens = ap (λ i. i.rest) (done_input found.primary p end j both) ∙ rest in
    (done_value found.primary p end j both, same_place tokens found.next next t.within stands.in_tokens same))
primary_is_complete tokens at depth (Err NoMemory) h e p next stands = refl
primary_is_complete tokens at depth (Err NoExpr) h e p next stands =
    primary-read tokens at depth next p stands (λ j read rest. fails p j (sym (e no_memory) ∙ read))

pub no_primary_stands : (tokens : List Sign) (at depth : ℕ) (r : Result ParsedPrimary ExprFault)
    → IsPrimaryReadAs tokens (read_qualifier (256 - depth) (input_at tokens at)) r → IsErrOf r NoExpr → NoPrimaryStandsAt tokens at depth
no_primary_stands tokens at depth (Ok found) e is p next stands = absurd cc
no_primary_stands tokens at depth (Err NoMemory) e is p next stands = absurd cc
no_primary_stands tokens at depth (Err NoExpr) e is p next stands =
    primary-read tokens at depth next p stands (λ j read rest. fails p j (sym (e no_memory) ∙ read))

-- ---- what the parser's cursor shows

at_end : (tokens : List Sign) (j : Input) → IsAt tokens j → j ≡ record { rest = drop j.at tokens; at = j.at; bodies = j.bodies }
at_end tokens j h = let r : (ts : List Sign) → Input = λ ts. record { rest = ts; at = j.at; bodies = j.bodies } in ap r h.rest

pub expr_as_read : (goal : Goal) (tokens : List Sign) (at depth : ℕ) (x : Expr) (j : Input) → at ≤ length tokens
    → read_goal goal (256 - depth) (input_at tokens at) ≡ Done x j
    → read_goal goal (256 - depth) (input_at tokens at) ≡ Done x (record { rest = drop j.at tokens; at = j.at; bodies = j.bodies })
expr_as_read goal tokens at depth x j h e =
    let parts = read_goal-parts goal (256 - depth) x (input_at tokens at) j e in
    let s = expr-stands tokens at depth x j h parts.read parts.ends in
    e ∙ ap (λ z. done x z) (at_end tokens j s.there)

pub primary_as_read : (tokens : List Sign) (at depth : ℕ) (p : Primary) (j : Input) → at ≤ length tokens
    → read_qualifier (256 - depth) (input_at tokens at) ≡ Done p j
    → read_qualifier (256 - depth) (input_at tokens at) ≡ Done p (record { rest = drop j.at tokens; at = j.at; bodies = j.bodies })
primary_as_read tokens at depth p j h e = let s = primary-stands tokens at depth p j h e in e ∙ ap (λ z. done p z) (at_end tokens j s.there)

-- where an array initializer ends
array-at : (tokens : List Sign) (at depth : ℕ) (b : ArrayInitializer) (j : Input) → at ≤ length tokens
    → (read_nest (256 - depth)).braces (input_at tokens at) ≡ Done b j → IsAt tokens j
array-at tokens at depth b j h e =
    let known = nest-sound (256 - depth) (within depth) in
    let read = known.braces b (input_at tokens at) j e in
    let around : Around = above depth in
    let leaves = fit-leaves tokens (yield_array b around) (input_at tokens at) j (start tokens at h) (read.taken around refl) in
    leaves.1.there

pub expr_goes_on : (goal : Goal) (tokens : List Sign) (at depth : ℕ) (p : ParsedExpr) → at ≤ length tokens
    → IsReadAs tokens (read_goal goal (256 - depth) (input_at tokens at)) (Ok p) → at ≤ p.next
expr_goes_on goal tokens at depth p h e =
    let end : Input = record { rest = drop p.next tokens; at = p.next; bodies = p.bodies } in
    let parts = read_goal-parts goal (256 - depth) p.expr (input_at tokens at) end e in
    let s = expr-stands tokens at depth p.expr end h parts.read parts.ends in s.later

pub primary_goes_on : (tokens : List Sign) (at depth : ℕ) (p : ParsedPrimary) → at ≤ length tokens
    → IsPrimaryReadAs tokens (read_qualifier (256 - depth) (input_at tokens at)) (Ok p) → at ≤ p.next
primary_goes_on tokens at depth p h e =
    let s = primary-stands tokens at depth p.primary (record { rest = drop p.next tokens; at = p.next; bodies = p.bodies }) h e in s.later

input_of : List Sign → ℕ → List PendingBody → Input
input_of tokens n bs = record { rest = drop n tokens; at = n; bodies = bs }

pub expr_from_parts : (goal : Goal) (tokens : List Sign) (at depth : ℕ) (x : Expr) (k j : Input) (n : ℕ) (bs : List PendingBody) → at ≤ length tokens
    → k ≡ input_at tokens at → read_goal goal (256 - depth) k ≡ Done x j → n ≡ j.at → bs ≡ j.bodies
    → read_goal goal (256 - depth) (input_at tokens at) ≡ Done x (record { rest = drop n tokens; at = n; bodies = bs })
unfolding input_of
expr_from_parts goal tokens at depth x k j n bs h same e here found =
    expr_as_read goal tokens at depth x j h (ap (read_goal goal (256 - depth)) (sym same) ∙ e)
    ∙ ap (λ m. done x (input_of tokens m j.bodies)) (sym here) ∙ ap (λ xs. done x (input_of tokens n xs)) (sym found)

pub primary_from_parts : (tokens : List Sign) (at depth : ℕ) (p : Primary) (k j : Input) (n : ℕ) (bs : List PendingBody) → at ≤ length tokens
    → k ≡ input_at tokens at → read_qualifier (256 - depth) k ≡ Done p j → n ≡ j.at → bs ≡ j.bodies
    → read_qualifier (256 - depth) (input_at tokens at) ≡ Done p (record { rest = drop n tokens; at = n; bodies = bs })
unfolding input_of
primary_from_parts tokens at depth p k j n bs h same e here found =
    primary_as_read tokens at depth p j h (ap (read_qualifier (256 - depth)) (sym same) ∙ e)
    ∙ ap (λ m. done p (input_of tokens m j.bodies)) (sym here) ∙ ap (λ xs. done p (input_of tokens n xs)) (sym found)

pub array_from_parts : (tokens : List Sign) (at depth : ℕ) (b : ArrayInitializer) (k j : Input) (n : ℕ) (bs : List PendingBody) → at ≤ length tokens
    → k ≡ input_at tokens at → (read_nest (256 - depth)).braces k ≡ Done b j → n ≡ j.at → bs ≡ j.bodies
    → (read_nest (256 - depth)).braces (input_at tokens at) ≡ Done b (record { rest = drop n tokens; at = n; bodies = bs })
unfolding input_of
array_from_parts tokens at depth b k j n bs h same e here found =
    let read : (read_nest (256 - depth)).braces (input_at tokens at) ≡ Done b j = ap (read_nest (256 - depth)).braces (sym same) ∙ e in
    read ∙ ap (λ z. done b z) (at_end tokens j (array-at tokens at depth b j h read))
    ∙ ap (λ m. done b (input_of tokens m j.bodies)) (sym here) ∙ ap (λ xs. done b (input_of tokens n xs)) (sym found)

pub counts_steps : (goal : Goal) (tokens : List Sign) (at depth old now : ℕ) (r : Result ParsedExpr ExprFault) → at ≤ length tokens
    → IsReadAs tokens (read_goal goal (256 - depth) (input_at tokens at)) r → now ≡ old + (expr_end r (length tokens) - at)
    → CountsSteps (length tokens) at r old now
counts_steps goal tokens at depth old now (Ok p) h e is = (expr_goes_on goal tokens at depth p h e, is)
counts_steps goal tokens at depth old now (Err fault) h e is = (omega arith, omega arith)

pub counts_primary_steps : (tokens : List Sign) (at depth old now : ℕ) (r : Result ParsedPrimary ExprFault) → at ≤ length tokens
    → IsPrimaryReadAs tokens (read_qualifier (256 - depth) (input_at tokens at)) r → now ≡ old + (primary_end r (length tokens) - at)
    → CountsPrimarySteps (length tokens) at r old now
counts_primary_steps tokens at depth old now (Ok p) h e is = (primary_goes_on tokens at depth p h e, is)
counts_primary_steps tokens at depth old now (Err fault) h e is = (omega arith, omega arith)
