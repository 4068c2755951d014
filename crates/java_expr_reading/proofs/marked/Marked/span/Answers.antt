use Rattle.std.proofs.Common.{subst, drop, slice_index_or}
use Rattle.java_expr_reading.specs.Input.{first_of}
use Rattle.java_expr_reading.proofs.PlaceLaws.{CarriesSpanAt, carries_at}
use Rattle.java_expr_reading.proofs.marked.Marked.span.Goals as goal

pub returns-then-at-self-clause-this : goal.returns-then-at-self-clause-this
returns-then-at-self-clause-this c =
    (subst (λ ts. CarriesSpanAt (slice_index_or c.self.inside.tokens.now c.args.at c.index-self-at.result).span (first_of (drop c.args.at ts))) c.self.view_is
    (carries_at c.self.inside.tokens.now c.args.at c.index-self-at.result c.if-at-self.true)).0

pub returns-then-at-self-clause-super_word : goal.returns-then-at-self-clause-super_word
returns-then-at-self-clause-super_word c =
    (subst (λ ts. CarriesSpanAt (slice_index_or c.self.inside.tokens.now c.args.at c.index-self-at.result).span (first_of (drop c.args.at ts))) c.self.view_is
    (carries_at c.self.inside.tokens.now c.args.at c.index-self-at.result c.if-at-self.true)).1

pub returns-then-at-self-clause-brace : goal.returns-then-at-self-clause-brace
returns-then-at-self-clause-brace c =
    (subst (λ ts. CarriesSpanAt (slice_index_or c.self.inside.tokens.now c.args.at c.index-self-at.result).span (first_of (drop c.args.at ts))) c.self.view_is
    (carries_at c.self.inside.tokens.now c.args.at c.index-self-at.result c.if-at-self.true)).2
