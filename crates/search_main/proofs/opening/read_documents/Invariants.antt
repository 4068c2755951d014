use Rattle.std.proofs.Common.{◌≡◌, ◌+◌, ◌++◌, length}
use Rattle.std.specs.Prelude.{map, sum}
use Rattle.std.specs.List.{AllByRecursion}
use Rattle.std.specs.Vec.Iter.{into_iter_items, into_iter_len}
use Rattle.java_tree.specs.declared.outline.Level.TheVariants.{Java14}
use Rattle.java_model.specs.ScriptText.{IsScriptDoc}
use Rattle.java_model.specs.Texts.{IsOutlineOf}
use Rattle.script_text.specs.Views.{documents_of}
use Rattle.search_main.specs.Inner.Views.{document_read}
use Rattle.search_main.proofs.opening.read_documents.Given as goal

abbrev pub invariant-loop-doc : goal.invariant-loop-doc
invariant-loop-doc g l = record {
  left : into_iter_len l.doc-iterator ≡ length (into_iter_items l.doc-iterator);
  legal : AllByRecursion IsScriptDoc (documents_of (into_iter_items l.doc-iterator));
  same : map document_read l.opened.items ++ documents_of (into_iter_items l.doc-iterator) ≡ documents_of l.fn.docs.items;
  outlined : AllByRecursion (λ o. IsOutlineOf Java14 o.document.text o.document.outline) l.opened.items;
  levels : AllByRecursion (λ o. o.document.level ≡ Java14) l.opened.items;
  steps : l.steps + sum (map (λ doc. length doc.text) (into_iter_items l.doc-iterator)) ≡ l.initial.steps + sum (map (λ doc. length doc.text) l.fn.docs.items);
}
