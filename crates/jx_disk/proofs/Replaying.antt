-- One call more over what a buffer shows of a file.
use Rattle.std.proofs.Common.{◌≡◌, ◌≢◌, ℕ, ◌+◌, ◌^◌, ◌<◌, ◌≤◌, min, max, List, ◌∷◌, length, take, drop, Option, unwrap_or, IsTrue, Bool, ◌&&◌, ltb, sym, ◌∙◌, ap, arith, length-take, length-drop}
use Rattle.std.proofs.lemmas.List.{get_or-take}
use Rattle.std.proofs.lemmas.Bool.Decides.{nat_tests}
use Rattle.jx_disk.specs.Disk.{written_over}
use Rattle.jx_disk.specs.Calls.{painted, bytes_after}
use Rattle.jx_disk.specs.Told.{told, total_written, all_in_range, Shows}
use Rattle.jx_disk.specs.declared.record.Call.{Call}
use Rattle.jx_disk.specs.declared.record.Call.TheVariants.{Read, Write, Cut, Sync}
use Rattle.jx_disk.specs.Steps.{length-written_over, length-painted, written_here, written_elsewhere, shortened_here, shortened_elsewhere}

-- what a file of these bytes has become so far, and what the calls that are left make of it
pub record Halfway (at : ℕ) (fill : Option ℕ) (file : ℕ) (first buf : List ℕ) (now : ℕ) (calls : List Call) (rest : List ℕ) (bytes end : List ℕ) : Type 0 where
  pub reached : List ℕ
  pub long : length reached ≡ now
  pub shows : Shows at bytes first → Shows at reached buf
  pub goes_on : bytes_after fill (told calls rest) file reached ≡ end

pub record Replayed (at : ℕ) (fill : Option ℕ) (file : ℕ) (first buf : List ℕ) (len now : ℕ) (calls : List Call) (rest : List ℕ) (end : List ℕ → List ℕ) : Type 0 where
  pub same_length : length buf ≡ length first
  pub enough : total_written calls ≤ length rest
  pub in_range : IsTrue (all_in_range calls)
  pub halfway : (bytes : List ℕ) → length bytes ≡ len → Halfway at fill file first buf now calls rest bytes (end bytes)

first_in_range : (n : ℕ) (rest : Bool) → IsTrue (ltb n (2 ^ 64) && rest) → n < 2 ^ 64
first_in_range n rest h = grind (arith, nat_tests)

pub others_in_range : (n : ℕ) (rest : Bool) → IsTrue (ltb n (2 ^ 64) && rest) → IsTrue rest
others_in_range n rest h = grind (arith, nat_tests)

module _ (at : ℕ) (fill : Option ℕ) (file : ℕ) (first buf : List ℕ) (len now : ℕ) (calls : List Call) (rest : List ℕ) (end : List ℕ → List ℕ) where
  pub write_fits : (other from n : ℕ) → Replayed at fill file first buf len now (Write other from n ∷ calls) rest end → from + n < 2 ^ 64
  write_fits other from n so_far = first_in_range (from + n) (all_in_range calls) so_far.in_range

  pub write_more : (other from n : ℕ) (buf' : List ℕ) (now' : ℕ) (piece after : List ℕ) → Replayed at fill file first buf len now (Write other from n ∷ calls) rest end
      → file ≡ other → piece ≡ take n rest → after ≡ drop n rest → length buf' ≡ length buf → now' ≡ max now (from + length piece)
      → ((bytes : List ℕ) → length bytes ≡ now → Shows at bytes buf → Shows at (written_over (unwrap_or fill 0) from (painted fill piece) bytes) buf')
      → Replayed at fill file first buf' len now' calls after end
  write_more other from n buf' now' piece after so_far is is_piece is_after same_buf is_now shows = record {
    same_length = same_buf ∙ so_far.same_length;
    enough = omega (arith, so_far.enough, ap length is_after, length-drop n rest);
    in_range = others_in_range (from + n) (all_in_range calls) so_far.in_range;
    halfway = λ bytes long.
        let h = so_far.halfway bytes long in
        record {
          reached = written_over (unwrap_or fill 0) from (painted fill piece) h.reached;
          long = length-written_over (unwrap_or fill 0) from (painted fill piece) h.reached ∙ omega (arith, h.long, is_now, length-painted fill piece);
          shows = λ given. shows h.reached h.long (h.shows given);
          goes_on =
              ap (λ (l : List ℕ). bytes_after fill (told calls after) file (written_over (unwrap_or fill 0) from (painted fill l) h.reached)) is_piece
              ∙ ap (λ (l : List ℕ). bytes_after fill (told calls l) file (written_over (unwrap_or fill 0) from (painted fill (take n rest)) h.reached)) is_after
              ∙ ap (bytes_after fill (told calls (drop n rest)) file) (sym (written_here fill file other from (take n rest) h.reached is)) ∙ h.goes_on;
        };
  }

  pub write_past : (other from n : ℕ) (after : List ℕ) → Replayed at fill file first buf len now (Write other from n ∷ calls) rest end
      → file ≢ other → after ≡ drop n rest → Replayed at fill file first buf len now calls after end
  write_past other from n after so_far apart is_after = record {
    same_length = so_far.same_length;
    enough = omega (arith, so_far.enough, ap length is_after, length-drop n rest);
    in_range = others_in_range (from + n) (all_in_range calls) so_far.in_range;
    halfway = λ bytes long.
        let h = so_far.halfway bytes long in
        record {
          reached = h.reached;
          long = h.long;
          shows = h.shows;
          goes_on =
              ap (λ (l : List ℕ). bytes_after fill (told calls l) file h.reached) is_after
              ∙ ap (bytes_after fill (told calls (drop n rest)) file) (sym (written_elsewhere fill file other from (take n rest) h.reached apart)) ∙ h.goes_on;
        };
  }

  pub cut_more : (other most now' : ℕ) → Replayed at fill file first buf len now (Cut other most ∷ calls) rest end
      → file ≡ other → now' ≡ min now most → Replayed at fill file first buf len now' calls rest end
  cut_more other most now' so_far is is_now = record {
    same_length = so_far.same_length;
    enough = so_far.enough;
    in_range = so_far.in_range;
    halfway = λ bytes long.
        let h = so_far.halfway bytes long in
        record {
          reached = take most h.reached;
          long = omega (arith, h.long, is_now, length-take most h.reached);
          shows = λ given k inside below. h.shows given k inside (omega (arith, length-take most h.reached)) ∙ sym (get_or-take most h.reached (at + k) 0 (omega (arith, length-take most h.reached)));
          goes_on = ap (bytes_after fill (told calls rest) file) (sym (shortened_here fill file other most h.reached is)) ∙ h.goes_on;
        };
  }

  pub cut_past : (other most : ℕ) → Replayed at fill file first buf len now (Cut other most ∷ calls) rest end
      → file ≢ other → Replayed at fill file first buf len now calls rest end
  cut_past other most so_far apart = record {
    same_length = so_far.same_length;
    enough = so_far.enough;
    in_range = so_far.in_range;
    halfway = λ bytes long.
        let h = so_far.halfway bytes long in
        record {
          reached = h.reached;
          long = h.long;
          shows = h.shows;
          goes_on = ap (bytes_after fill (told calls rest) file) (sym (shortened_elsewhere fill file other most h.reached apart)) ∙ h.goes_on;
        };
  }

  pub read_past : Replayed at fill file first buf len now (Read ∷ calls) rest end → Replayed at fill file first buf len now calls rest end
  read_past so_far = record {
    same_length = so_far.same_length;
    enough = so_far.enough;
    in_range = so_far.in_range;
    halfway = λ bytes long.
        let h = so_far.halfway bytes long in
        record { reached = h.reached; long = h.long; shows = h.shows; goes_on = h.goes_on };
  }

  pub sync_past : Replayed at fill file first buf len now (Sync ∷ calls) rest end → Replayed at fill file first buf len now calls rest end
  sync_past so_far = record {
    same_length = so_far.same_length;
    enough = so_far.enough;
    in_range = so_far.in_range;
    halfway = λ bytes long.
        let h = so_far.halfway bytes long in
        record { reached = h.reached; long = h.long; shows = h.shows; goes_on = h.goes_on };
  }
