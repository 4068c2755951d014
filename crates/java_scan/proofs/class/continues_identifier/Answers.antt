use Rattle.std.proofs.Common.{◌≡◌, Bool, true, false, ◌||◌, ◌==◌, sym, ap, ◌∙◌, arith}
use Rattle.std.specs.Char.{is_ascii_alphanumeric}
use Rattle.unicode_ident.proofs.IdentLemmas.{is_xid_continue-ascii}
use Rattle.java_scan.proofs.class.continues_identifier.Goals as goal

pub returns-then-is_ascii_alphanumeric : goal.returns-then-is_ascii_alphanumeric
returns-then-is_ascii_alphanumeric c =
    let is : is_ascii_alphanumeric c.args.c ≡ true = sym c.is_ascii_alphanumeric.ensures.value ∙ c.if-is_ascii_alphanumeric.true in
    c.if-is_ascii_alphanumeric.true ∙ sym (is_xid_continue-ascii c.args.c (omega arith) ∙ ap (λ (b : Bool). b || (c.args.c == 95)) is)

pub returns-else-is_ascii_alphanumeric : goal.returns-else-is_ascii_alphanumeric
returns-else-is_ascii_alphanumeric c =
    let isnt : is_ascii_alphanumeric c.args.c ≡ false = sym c.is_ascii_alphanumeric.ensures.value ∙ c.if-is_ascii_alphanumeric.false in
    sym (is_xid_continue-ascii c.args.c (omega arith) ∙ ap (λ (b : Bool). b || (c.args.c == 95)) isnt)
