use Rattle.std.proofs.Common.{◌+◌, map, take, sym, ap, ◌∙◌, subst}
use Rattle.java_model.specs.Names.Lists.{same_name}
use Rattle.java_types.specs.Documents.{document_of}
use Rattle.java_types.specs.Packages.{AreKnown}
use Rattle.java_types.proofs.KnownPackages.{IsCovered, documents_next, package_added, package_there}
use Rattle.java_types.proofs.packages.all_prefixes.Goals.{then-not-same_name+in_ok-add_prefixes, else-not-same_name}
use Rattle.java_types.proofs.packages.all_prefixes.Goals as goal

pub loop-document-preserved : goal.loop-document-preserved
loop-document-preserved c =
    let i = c.loop-document.document-index in let ds = c.args.documents.now in
    let next = documents_next ds i c.document-item.result c.loop-document-test.true c.document-item.is in
    elim c.if-not-same_name.branch [
      | then-not-same_name+in_ok-add_prefixes w ↦
          package_added (map document_of (take i ds)) (map document_of (take (i + 1) ds)) (document_of c.document-item.result) c.loop-document.names c.if-not-same_name.names c.if-not-same_name.last.now
          c.as_slice-package.result.now next c.loop-document.invariant.0 c.as_slice-package.ensures (w.names-is ∙ w.in_ok-add_prefixes.ensures) (ap (λ r. r.now) w.last-is)
      | else-not-same_name w ↦
          package_there (map document_of (take i ds)) (map document_of (take (i + 1) ds)) (document_of c.document-item.result) c.if-not-same_name.names c.if-not-same_name.last.now c.as_slice-package.result.now
          next (subst (λ ns. AreKnown (map document_of (take i ds)) ns × IsCovered ns c.if-not-same_name.last.now) (sym w.names-is)
          (subst (λ r. AreKnown (map document_of (take i ds)) c.loop-document.names × IsCovered c.loop-document.names r.now) (sym w.last-is) c.loop-document.invariant))
          c.as_slice-package.ensures (ap (λ r. same_name c.as_slice-package.result.now r.now) w.last-is ∙ sym w.if-not-same_name.ensures)
    ]
