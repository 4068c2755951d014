-- The replies to searches.
use Rattle.std.proofs.Common.{◌≡◌, ℕ, ◌+◌, ◌<◌, get_or, take, Bool, true, false, List, [], ◌∷◌, ◌++◌, cond, length, Option, Some, None, Result, Ok, Err, refl, sym, ap, subst, ◌∙◌, append_assoc, arith}
use Rattle.std.specs.Prelude.{codes}
use Rattle.std.specs.Fmt.{decimal}
use Rattle.std.specs.List.{count_by, flat_map, AllByRecursion, AllZip}
use Rattle.std.specs.List.Sorted.{IsPermutation}
use Rattle.std.proofs.lemmas.List.{append-nil}
use Rattle.java_tree.specs.declared.occurrence.Match.{Match}
use Rattle.java_tree.specs.declared.search.What.{What}
use Rattle.java_tree.specs.declared.search.What.TheVariants as whats
use Rattle.java_model.specs.Documents.{Document, AreInOrder}
use Rattle.java_model.specs.Names.Environments.{Env}
use Rattle.java_model.specs.Matches.Scans.{is_in_scope}
use Rattle.java_model.specs.OutputText.{report_text}
use Rattle.java_model.specs.ScriptText.{IsScriptDoc}
use Rattle.java_model.specs.SearchPattern.Parts.{Pattern, PatternFault, bad_parens, wrong_limit, empty, paren_fault, parts_of, has_empty_part, has_limit, without_empty_part}
use Rattle.match_locator.specs.Searches.{is_for_types}
use Rattle.script_text.specs.declared.script.Script.{Script}
use Rattle.script_text.specs.declared.script.Search.{Search}
use Rattle.script_text.specs.Lines.{HasLines}
use Rattle.script_text.specs.Replies.{Reply, reported, refused, reply_text, refusal_text}
use Rattle.script_text.specs.Spelling.{IsScriptSearch}
use Rattle.script_text.specs.Views.{documents_of, report_of}
use Rattle.script_text.specs.Words.{is_built}
use Rattle.search_main.specs.declared.opening.Opened.{Opened}
use Rattle.search_main.specs.Accepted.{AnswersScript}
use Rattle.search_main.specs.Inner.Located.{AreMatchesAmong}
use Rattle.search_main.specs.Inner.Replied.{IsOpening, IsReplied, AreReplied, IsOutputOf}
use Rattle.search_main.specs.Inner.Views.{documents_read, path_read}
use Rattle.search_main.specs.Legal.{Answers, answers, refuses, pattern_in}
use Rattle.search_main.proofs.Scanning.{are_matches, count_read}
use Rattle.search_main.proofs.Documents.{take_more}
use Rattle.search_main.proofs.Orders.{all_permuted}

-- ---- what is read of a pattern is of its kind

what_of : Result Pattern PatternFault → What → Type 0
what_of (Ok p) what = p.what ≡ what
what_of (Err fault) what = Unit {0}

what_without_empty : (p : Pattern) (b : Bool) → what_of (cond b (Err empty) (Ok p)) p.what
unfolding what_of
what_without_empty p true = tt
what_without_empty p false = refl

what_of_parts : (p : Pattern) (fault : Option ℕ) → what_of (elim fault [ Some at ↦ Err (bad_parens at) | None ↦ without_empty_part p ]) p.what
unfolding what_of
what_of_parts p (Some at) = tt
what_of_parts p None = what_without_empty p (has_empty_part p.qualification p.name p.params)

what_of_limit : (p : Pattern) (fault : Option ℕ) (b : Bool) → what_of (cond b (elim fault [ Some at ↦ Err (bad_parens at) | None ↦ without_empty_part p ]) (Err wrong_limit)) p.what
unfolding what_of
what_of_limit p fault true = what_of_parts p fault
what_of_limit p fault false = tt

what_read : (s : Search) → what_of (pattern_in s) s.what
what_read s = what_of_limit (parts_of s.what s.limit s.rule s.case s.pattern) (paren_fault s.what s.pattern) (has_limit s.what s.limit)

built_for_types : (what : What) → is_built what ≡ true → is_for_types what ≡ true
built_for_types whats.Class e = refl
built_for_types whats.Package e = refl
built_for_types whats.Method e = absurd cc
built_for_types whats.Constructor e = absurd cc
built_for_types whats.Field e = absurd cc

pub for_types : (s : Search) (p : Pattern) → IsScriptSearch s → pattern_in s ≡ Ok p → is_for_types p.what ≡ true
unfolding what_of
for_types s p formed read =
    let same : p.what ≡ s.what = subst (λ r. what_of r s.what) read (what_read s) in
    ap is_for_types same ∙ built_for_types s.what formed.what

-- ---- one reply

pub is_reported : (env : Env) (opened : List Opened) (s : Search) (p : Pattern) (ms : List Match) (resolved : ℕ) (before after : List ℕ) → IsOpening env opened
    → pattern_in s ≡ Ok p → AreMatchesAmong env s.scope p (documents_read opened) ms
    → resolved ≡ count_by (λ o. is_in_scope s.scope (path_read o)) opened
    → after ≡ before ++ report_text (report_of s.line resolved ms) → IsReplied (documents_read opened) s before after
is_reported env opened s p ms resolved before after opening read found counted printed = record {
  reply = reported (report_of s.line resolved ms);
  answers = answers p (report_of s.line resolved ms) read (record {
    line = refl;
    version = omega arith;
    matches = are_matches (documents_read opened) env s.scope p ms opening.is_env found;
    resolved = counted ∙ count_read s.scope opened;
    newer = refl;
    skipped = refl;
  });
  appended = printed;
}

pub is_refused : (docs : List Document) (s : Search) (fault : PatternFault) (before after : List ℕ) → pattern_in s ≡ Err fault → after ≡ before ++ refusal_text s.line fault
    → IsReplied docs s before after
is_refused docs s fault before after read printed = record { reply = refused s.line fault; answers = refuses fault read; appended = printed }

-- ---- all replies

zip_push : {X Y : Type 0} (R : X → Y → Type 0) (xs : List X) (ys : List Y) (x : X) (y : Y) → AllZip R xs ys → R x y → AllZip R (xs ++ x ∷ []) (ys ++ y ∷ [])
zip_push R [] [] x y all here = (here, tt)
zip_push R [] (z ∷ ys) x y all here = absurd all
zip_push R (z ∷ xs) [] x y all here = absurd all
zip_push R (w ∷ xs) (z ∷ ys) x y all here = (all.0, zip_push R xs ys x y all.1 here)

flat_push : (rs : List Reply) (r : Reply) → flat_map reply_text (rs ++ r ∷ []) ≡ flat_map reply_text rs ++ reply_text r
flat_push [] r = append-nil (reply_text r)
flat_push (q ∷ rs) r = ap (λ bytes. reply_text q ++ bytes) (flat_push rs r) ∙ sym (append_assoc (reply_text q) (flat_map reply_text rs) (reply_text r))

pub none_replied : (docs : List Document) (before : List ℕ) → AreReplied docs [] before before
none_replied docs before = record { replies = []; answers = tt; appended = sym (append-nil before) }

pub one_more : (docs : List Document) (searches : List Search) (i : ℕ) (s : Search) (before middle after : List ℕ) → i < length searches → s ≡ get_or searches i s
    → AreReplied docs (take i searches) before middle → IsReplied docs s middle after → AreReplied docs (take (i + 1) searches) before after
one_more docs searches i s before middle after lt is so_far one =
    subst (λ ss. AreReplied docs ss before after) (ap (λ x. take i searches ++ x ∷ []) is ∙ sym (take_more searches i s lt)) (record {
      replies = so_far.replies ++ one.reply ∷ [];
      answers = zip_push (Answers docs []) (take i searches) so_far.replies s one.reply so_far.answers one.answers;
      appended =
          one.appended ∙ ap (λ bytes. bytes ++ reply_text one.reply) so_far.appended ∙ append_assoc before (flat_map reply_text so_far.replies) (reply_text one.reply)
          ∙ ap (λ bytes. before ++ bytes) (sym (flat_push so_far.replies one.reply));
    })

pub is_output : (docs : List Document) (searches : List Search) (before middle after : List ℕ) → before ≡ codes "journal " ++ decimal 0 ++ 10 ∷ [] → AreReplied docs searches before middle
    → after ≡ middle ++ codes "end\n" → IsOutputOf docs searches after
is_output docs searches before middle after journal replied end = record {
  replies = replied.replies;
  answers = replied.answers;
  printed = end ∙ ap (λ bytes. bytes ++ codes "end\n") (replied.appended ∙ ap (λ bytes. bytes ++ flat_map reply_text replied.replies) journal) ∙ shape (decimal 0) (flat_map reply_text replied.replies);
}
  where
    shape : (digits replies : List ℕ) → ((codes "journal " ++ digits ++ 10 ∷ []) ++ replies) ++ codes "end\n" ≡ codes "journal " ++ digits ++ (10 ∷ []) ++ [] ++ replies ++ codes "end" ++ 10 ∷ []
    shape digits replies = simp append_assoc

-- ---- the whole output

pub legal_docs : (bytes : List ℕ) (lines : Script) → HasLines bytes lines → AllByRecursion IsScriptDoc (documents_of lines.docs.items)
legal_docs bytes lines has = all_permuted IsScriptDoc has.script.docs (documents_of lines.docs.items) has.same has.is_script.docs

pub legal_searches : (bytes : List ℕ) (lines : Script) → HasLines bytes lines → AllByRecursion IsScriptSearch lines.searches.items
legal_searches bytes lines has = subst (AllByRecursion IsScriptSearch) has.searches has.is_script.searches

pub answers_script : (bytes text : List ℕ) (lines : Script) (opened : List Opened) → HasLines bytes lines → documents_read opened ≡ documents_of lines.docs.items
    → IsOutputOf (documents_read opened) lines.searches.items text → AnswersScript bytes text
answers_script bytes text lines opened has same output = record {
  script = has.script;
  output = record { journal = []; replies = output.replies };
  is_script = has.is_script;
  legal = record {
    opening = documents_read opened;
    same = subst (IsPermutation has.script.docs) (sym same) has.same;
    in_order = subst AreInOrder (sym same) has.in_order;
    journal = refl;
    replies = subst (λ (searches : List Search). AllZip (Answers (documents_read opened) []) searches output.replies) (sym has.searches) output.answers;
  };
  printed = output.printed;
}
