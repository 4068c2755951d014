-- The replies to searches, and the bytes of an output.
use Rattle.std.specs.Prelude.{ℕ, List, [], ◌∷◌, ◌++◌, length, codes}
use Rattle.std.specs.Fmt.{decimal}
use Rattle.std.specs.List.{flat_map}
use Rattle.java_model.specs.OutputText.{entry_line, report_text}
use Rattle.java_model.specs.Output.{Entry, Report}
use Rattle.java_model.specs.SearchPattern.Parts.{PatternFault, wrong_limit, bad_parens, empty}

-- the reply to a search: its report, or, by the line of the search, why its pattern is refused
pub data Reply : Type 0 where
  reported : Report → Reply
  refused : ℕ → PatternFault → Reply

pub record Output : Type 0 where
  pub journal : List Entry
  pub replies : List Reply

-- why a pattern is refused
abbrev pub cause_words : PatternFault → List ℕ
cause_words wrong_limit = codes "WrongLimit"
cause_words (bad_parens at) = codes "BadParens " ++ decimal at
cause_words empty = codes "Empty"

-- `LINE search pattern CAUSE`
abbrev pub refusal_text : ℕ → PatternFault → List ℕ
refusal_text line fault = decimal line ++ codes " search pattern " ++ cause_words fault ++ (10 ∷ [])

abbrev pub reply_text : Reply → List ℕ
reply_text (reported report) = report_text report
reply_text (refused line fault) = refusal_text line fault

-- `journal N` and its N entries, the replies, and `end`
abbrev pub output_text : Output → List ℕ
output_text output =
    codes "journal " ++ decimal (length output.journal) ++ (10 ∷ []) ++ flat_map entry_line output.journal
    ++ flat_map reply_text output.replies ++ codes "end" ++ 10 ∷ []
