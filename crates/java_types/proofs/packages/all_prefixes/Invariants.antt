use Rattle.std.proofs.Common.{map, take}
use Rattle.java_types.specs.Documents.{document_of}
use Rattle.java_types.specs.Packages.{AreKnown}
use Rattle.java_types.proofs.KnownPackages.{IsCovered}
use Rattle.java_types.proofs.packages.all_prefixes.Given as goal

-- the packages of the documents so far, that of the last one among them
abbrev pub invariant-loop-document : goal.invariant-loop-document
invariant-loop-document l = AreKnown (map document_of (take l.document-index l.documents)) l.names × IsCovered l.names l.last
