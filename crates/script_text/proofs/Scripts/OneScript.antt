-- The script that bytes are: one, if they are one.
use Rattle.std.proofs.Common.{◌≡◌, ℕ, List, [], ◌∷◌, Some, refl, sym, ap, subst, ◌∙◌}
use Rattle.std.specs.Prelude.{map}
use Rattle.std.specs.List.{IsDistinct}
use Rattle.std.specs.List.Sorted.{IsPermutation}
use Rattle.std.specs.Ordering.{eq_by_cmp}
use Rattle.std.specs.Str.{bytes_eq}
use Rattle.std.proofs.lemmas.Cmp.{eq_by_cmp_equiv}
use Rattle.std.proofs.lemmas.List.Sorted.{IsPermutation-map, IsPermutation-sym}
use Rattle.std.proofs.lemmas.Map.Keys.{IsDistinct-IsPermutation, IsDistinct-from_sorted}
use Rattle.std.proofs.lemmas.Option.{same_Some}
use Rattle.java_model.specs.Documents.{document_cmp, AreInOrder}
use Rattle.script_text.specs.Scripts as scripts
use Rattle.java_model.specs.ScriptText.{AreFew}
use Rattle.script_text.specs.Spelling.{IsScript}
use Rattle.script_text.specs.declared.fault.ScriptFault.{ScriptFault}
use Rattle.script_text.specs.declared.fault.ScriptFault.TheVariants as faults
use Rattle.script_text.specs.declared.script.Script.{Script}
use Rattle.script_text.specs.declared.script.ScriptDoc.{ScriptDoc}
use Rattle.script_text.specs.declared.script.Search.{Search}
use Rattle.script_text.specs.Lines.{HasLines}
use Rattle.script_text.specs.Inner.Reading.{Fails, lines_at}
use Rattle.script_text.specs.Views.{document_of, documents_of}
use Rattle.script_text.proofs.SortedDocuments.{document_total}
use Rattle.script_text.proofs.Scripts.BothWays.{lines_take, lines_again}
use Rattle.script_text.proofs.Scripts.Runs.{few_permuted}

-- the script that was read is the only one
pub same_script : (bytes : List ℕ) (s t : scripts.Script) → lines_at bytes ≡ Some t → IsScript bytes s → s ≡ t
same_script bytes s t read is = same_Some s t (sym (lines_again bytes s is) ∙ read)

pub no_script : (e : ScriptFault) (bytes : List ℕ) → e ≡ faults.NotBuilt → Fails e (lines_at bytes) → (s : scripts.Script) → IsScript bytes s → ⊥
no_script faults.NoMemory bytes same read s is = absurd cc
no_script faults.NotBuilt bytes same read s is = let found = lines_again bytes s is in absurd cc

abbrev pub read_script : List ScriptDoc → List Search → scripts.Script
read_script docs searches = record { docs = documents_of docs; searches = searches }

pub few_of : (bytes : List ℕ) (docs : List ScriptDoc) (searches : List Search) (s : scripts.Script) → lines_at bytes ≡ Some (read_script docs searches) → IsScript bytes s → AreFew (documents_of docs)
few_of bytes docs searches s read is = subst (λ (t : scripts.Script). AreFew t.docs) (same_script bytes s (read_script docs searches) read is) is.few

pub own_names_of : (bytes : List ℕ) (docs : List ScriptDoc) (searches : List Search) (s : scripts.Script) → lines_at bytes ≡ Some (read_script docs searches) → IsScript bytes s → IsDistinct bytes_eq (map (λ s. s.name) searches)
own_names_of bytes docs searches s read is =
    subst (λ (t : scripts.Script). IsDistinct bytes_eq (map (λ (x : Search). x.name) t.searches)) (same_script bytes s (read_script docs searches) read is) is.searches_differ

pub names_differ_of : (bytes : List ℕ) (docs : List ScriptDoc) (searches : List Search) (s : scripts.Script) → lines_at bytes ≡ Some (read_script docs searches) → IsScript bytes s → IsDistinct (eq_by_cmp document_cmp) (documents_of docs)
names_differ_of bytes docs searches s read is =
    subst (λ (t : scripts.Script). IsDistinct (eq_by_cmp document_cmp) t.docs) (same_script bytes s (read_script docs searches) read is) is.names_differ

pub has_lines : (bytes : List ℕ) (docs : List ScriptDoc) (lines : Script) → lines_at bytes ≡ Some (read_script docs lines.searches.items)
    → AreFew (documents_of lines.docs.items) → IsDistinct bytes_eq (map (λ s. s.name) lines.searches.items) → IsPermutation docs lines.docs.items → AreInOrder (documents_of lines.docs.items) → HasLines bytes lines
has_lines bytes docs lines read few own moved up =
    let searches = lines.searches.items in
    let parts = lines_take bytes (read_script docs searches) read in
    let moved_docs = IsPermutation-map document_of docs lines.docs.items moved in
    let apart = IsDistinct-from_sorted document_cmp (documents_of lines.docs.items) up in
    let differ = IsDistinct-IsPermutation (eq_by_cmp document_cmp) ((eq_by_cmp_equiv document_total).symm) (documents_of lines.docs.items) (documents_of docs) (IsPermutation-sym (documents_of docs) (documents_of lines.docs.items) moved_docs) apart in
    record {
      script = read_script docs searches;
      is_script = record {
        spelled = parts.spelled;
        docs = parts.docs;
        searches = parts.searches;
        lines = parts.lines;
        few = few_permuted (documents_of lines.docs.items) (documents_of docs) (IsPermutation-sym (documents_of docs) (documents_of lines.docs.items) moved_docs) few;
        names_differ = differ;
        searches_differ = own;
      };
      same = moved_docs;
      in_order = up;
      searches = refl;
    }

-- bytes spell one script at most
pub same_script_of : (bytes : List ℕ) (s t : scripts.Script) → IsScript bytes s → IsScript bytes t → s ≡ t
same_script_of bytes s t first second = same_Some s t (sym (lines_again bytes s first) ∙ lines_again bytes t second)
