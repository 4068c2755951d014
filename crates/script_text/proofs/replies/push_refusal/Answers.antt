use Rattle.std.proofs.Common.{◌≡◌, ◌++◌, ◌∷◌, [], List, ℕ, refl, sym, ap, ◌∙◌, append_assoc}
use Rattle.std.specs.Prelude.{string_bytes, codes}
use Rattle.std.specs.Fmt.{decimal}
use Rattle.script_text.specs.Replies.{cause_words}
use Rattle.script_text.specs.Views.{fault_of}
use Rattle.script_text.proofs.Printed.{on_ok, refusal_behind}
use Rattle.script_text.proofs.replies.push_refusal.Goals as goal

pub returns : goal.returns
returns c =
    on_ok c.push_str-2.result (string_bytes c.push_cause.new.out) (10 ∷ []) (string_bytes c.push_str-2.new.self) _ c.push_str-2.ensures.bytes
    (refusal_behind (string_bytes c.args.out.now) (decimal c.args.line) (cause_words (fault_of c.args.cause)) _ _ _
    c.in_ok-push_line.ensures c.in_ok-push_str.ensures.bytes c.in_ok-push_cause.ensures)
