-- The bytes of a skin that is closed, ringed and numbered by its parts are accepted. Assumes nothing.
use Rattle.std.proofs.Common.{ℕ, ◌/◌, eqb, List, length, None, sym, subst, subst₂}
use Rattle.std.specs.List.{AllByRecursion}
use Rattle.theory.specs.Closed.{EachSideOnce}
use Rattle.theory_parts.specs.Parts.{Numbered}
use Rattle.theory_parts.specs.Buffer.{triangles_in, parts_in}
use Rattle.mesh.specs.Written.{skin_bytes, InRange}
use Rattle.mesh.proofs.Back.{read_back}
use Rattle.checker.specs.Verdict.{Sound, RingedOnce, All, Verdict}
use Rattle.checker.proofs.Verdicts.{accepted_if_good}

pub accepted :
    (cs ns : List ℕ) (parts : ℕ) → InRange cs ns parts →
    AllByRecursion (Sound (length cs / 3)) (triangles_in ns) → EachSideOnce eqb (triangles_in ns) →
    All (RingedOnce (triangles_in ns)) (length cs / 3) → Numbered eqb (triangles_in ns) (parts_in ns) parts →
    Verdict (skin_bytes cs ns parts) None
accepted cs ns parts range sound closed ringed numbered =
    let held = read_back cs ns parts range in
    let same_numbers = sym held.numbers_are in
    let same_count = sym held.corners_counted in
    (accepted_if_good (skin_bytes cs ns parts)).1
    (record {
      whole = held.verdict;
      sound = subst₂ (λ n ms. AllByRecursion (Sound n) (triangles_in ms)) same_count same_numbers sound;
      closed = subst (λ ms. EachSideOnce eqb (triangles_in ms)) same_numbers closed;
      ringed = subst₂ (λ n ms. All (RingedOnce (triangles_in ms)) n) same_count same_numbers ringed;
      numbered =
          subst₂ (λ n ms. Numbered eqb (triangles_in ms) (parts_in ms) n) (sym held.parts_counted) same_numbers numbered;
    })
