use Rattle.std.proofs.Common.{◌≡◌, ℕ, ◌+◌, ◌-◌, List, drop, take, length, ap, ◌∙◌, subst, arith, length-drop}
use Rattle.std.proofs.lemmas.List.{take_rest}
use Rattle.java_scan.specs.Place.{place_in, after_run, differs}
use Rattle.java_scan.proofs.MarkLaws.{IsPlainFor, plain_found, plain_nowhere, run_is}
use Rattle.java_scan.proofs.cursor.Cursor.run_to.Goals as goal

-- the bytes that are searched
searched : (bytes text : List ℕ) (at : ℕ) → bytes ≡ text → take (length bytes - at) (drop at bytes) ≡ drop at text
searched bytes text at e = take_rest bytes at ∙ ap (drop at) e

pub returns-in-Some : goal.returns-in-Some
returns-in-Some c =
    let text = c.self.inside.text.now in
    let at = c.self.inside.at in
    let hay : List ℕ = take (length c.as_bytes-bytes.result.now - at) (drop at c.as_bytes-bytes.result.now) in
    let same : hay ≡ drop at text = searched c.as_bytes-bytes.result.now text at c.as_bytes-bytes.ensures.value in
    let plain : IsPlainFor c.args.mark (drop at text) c.in-Some.count = subst (λ (bs : List ℕ). IsPlainFor c.args.mark bs c.in-Some.count) same (plain_found c.args.mark hay c.in-Some.count c.in-Some.ensures.0 c.in-Some.ensures.1) in
    run_is c.args.mark c.requires text at c.in-Some.count c.self.invariant.0 c.self.invariant.1 plain ∙ ap (after_run (differs c.args.mark)) c.self.view_is

pub returns-in-None : goal.returns-in-None
returns-in-None c =
    let text = c.self.inside.text.now in
    let at = c.self.inside.at in
    let bytes = c.as_bytes-bytes.result.now in
    let hay : List ℕ = take (length bytes - at) (drop at bytes) in
    let same : hay ≡ drop at text = searched bytes text at c.as_bytes-bytes.ensures.value in
    let plain : IsPlainFor c.args.mark (drop at text) (length (drop at text)) = subst (λ (bs : List ℕ). IsPlainFor c.args.mark bs (length bs)) same (plain_nowhere c.args.mark hay c.in-None.ensures) in
    let boundary = c.self.invariant.1 in
    let end : length bytes ≡ at + length (drop at text) = omega (arith, ap length c.as_bytes-bytes.ensures.value, length-drop at text, boundary.0) in
    ap (place_in text) end ∙ (run_is c.args.mark c.requires text at (length (drop at text)) c.self.invariant.0 boundary plain ∙ ap (after_run (differs c.args.mark)) c.self.view_is)
