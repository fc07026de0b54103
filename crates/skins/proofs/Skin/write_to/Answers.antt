use Rattle.std.proofs.Common.{◌≡◌, ℕ, ◌*◌, ◌/◌, ◌<◌, ◌≤◌, ◌++◌, List, [], length, get_or, take, sym, ap, ◌∙◌, ap₂, subst, arith, append_assoc, append-nil, take_all, lit<, w16, Fits}
use Rattle.std.specs.List.{flat_map}
use Rattle.std.specs.Simd.{first_chunks}
use Rattle.std.specs.Io.KnownBytes.{Appends}
use Rattle.mesh.specs.Written.{header_bytes, two_bytes, four_bytes, skin_bytes}
use Rattle.skins.proofs.Chunks.{corner_of, triangle_of, corners_joined, triangles_joined, chunk_written, chunk_below}
use Rattle.skins.proofs.Skin.write_to.Goals as goal

-- a coordinate fits two bytes, since all do
fits_short :
    (cs : List (List ℕ)) (xs ys : List ℕ) → cs ≡ first_chunks 3 (length xs / 3) xs → xs ≡ ys → ((i : ℕ) → get_or ys i 0 < 65536) →
    (i j : ℕ) → Fits w16 (get_or (get_or cs i []) j 0)
fits_short cs xs ys e f short i j =
    let here : get_or (get_or cs i []) j 0 < 65536 =
    subst (λ cs. get_or (get_or cs i []) j 0 < 65536) (sym e)
    (chunk_below 65536 3 (length xs / 3) xs i j (lit< tt) (λ o. subst (λ xs. get_or xs o 0 < 65536) (sym f) (short o))) in
    omega (arith, here)

-- all corners are written once all chunks are, and all triangles likewise
all_corners :
    (cs : List (List ℕ)) (xs ys : List ℕ) (i n : ℕ) → cs ≡ first_chunks 3 (length xs / 3) xs → xs ≡ ys → length cs ≤ i → length ys ≡ 3 * n →
    flat_map corner_of (take i cs) ≡ flat_map two_bytes ys
all_corners cs xs ys i n e f l long =
    ap (flat_map corner_of) (take_all i cs l ∙ e) ∙ corners_joined (length xs / 3) xs (omega (arith, ap length f)) ∙ ap (flat_map two_bytes) f

all_triangles :
    (ts : List (List ℕ)) (xs ys : List ℕ) (i n : ℕ) → ts ≡ first_chunks 4 (length xs / 4) xs → xs ≡ ys → length ts ≤ i → length ys ≡ 4 * n →
    flat_map triangle_of (take i ts) ≡ flat_map four_bytes ys
all_triangles ts xs ys i n e f l long =
    ap (flat_map triangle_of) (take_all i ts l ∙ e) ∙ triangles_joined (length xs / 4) xs (omega (arith, ap length f)) ∙ ap (flat_map four_bytes) f

pub loop-x-init : goal.loop-x-init
loop-x-init g c =
    subst (Appends _ _) (c.header_bytes.ensures.value ∙ sym (append-nil _)) c.in_ok-write_all.ensures.bytes

pub overflow_cast-x : goal.overflow_cast-x
overflow_cast-x g c =
    fits_short _ _ _ c.as_chunks.ensures.front c.deref.ensures.value c.args.self.now.writable.coordinates_short c.loop-x.x-index 0

pub overflow_cast-y : goal.overflow_cast-y
overflow_cast-y g c =
    fits_short _ _ _ c.as_chunks.ensures.front c.deref.ensures.value c.args.self.now.writable.coordinates_short c.loop-x.x-index 1

pub overflow_cast-z : goal.overflow_cast-z
overflow_cast-z g c =
    fits_short _ _ _ c.as_chunks.ensures.front c.deref.ensures.value c.args.self.now.writable.coordinates_short c.loop-x.x-index 2

pub loop-x-preserved : goal.loop-x-preserved
loop-x-preserved g c =
    let made = c.args.self.now.made in
    let front = header_bytes made.corners made.triangles made.parts in
    chunk_written corner_of _ _ _ front _ _ _ c.loop-x-test.true c.loop-x.invariant c.in_ok-write_all-2.ensures.bytes c.corner_bytes.ensures.value

pub loop-a-init : goal.loop-a-init
loop-a-init g c =
    let made = c.args.self.now.made in
    let front = header_bytes made.corners made.triangles made.parts in
    subst (Appends _ _)
    (ap (λ bs. front ++ bs)
    (all_corners _ _ _ c.loop-x.x-index made.corners c.as_chunks.ensures.front c.deref.ensures.value c.loop-x-test.false
    c.args.self.now.writable.corner_count)
    ∙ sym (append-nil _))
    c.loop-x.invariant

pub loop-a-preserved : goal.loop-a-preserved
loop-a-preserved g c =
    let made = c.args.self.now.made in
    let front = header_bytes made.corners made.triangles made.parts ++ flat_map two_bytes c.args.self.now.corners.items in
    chunk_written triangle_of _ _ _ front _ _ _ c.loop-a-test.true c.loop-a.invariant c.in_ok-write_all-3.ensures.bytes c.triangle_bytes.ensures.value

-- the counts are those of the header
same_bytes :
    (corners triangles : List ℕ) (n m parts : ℕ) (done : List ℕ) → length corners ≡ 3 * n → length triangles ≡ 4 * m →
    done ≡ flat_map four_bytes triangles →
    (header_bytes n m parts ++ flat_map two_bytes corners) ++ done ≡ skin_bytes corners triangles parts
same_bytes corners triangles n m parts done e f g =
    let corners_are : n ≡ length corners / 3 = omega arith in
    let triangles_are : m ≡ length triangles / 4 = omega arith in
    append_assoc (header_bytes n m parts) (flat_map two_bytes corners) done
    ∙ ap₂ (λ n m. header_bytes n m parts ++ (flat_map two_bytes corners ++ done)) corners_are triangles_are
    ∙ ap (λ bs. header_bytes (length corners / 3) (length triangles / 4) parts ++ (flat_map two_bytes corners ++ bs)) g

pub returns : goal.returns
returns g c =
    let skin = c.args.self.now in
    let writable = skin.writable in
    record {
      bytes =
          subst (Appends _ _)
          (same_bytes skin.corners.items skin.triangles.items skin.made.corners skin.made.triangles skin.made.parts _ writable.corner_count writable.triangle_count
          (all_triangles _ _ _ c.loop-a.a-index skin.made.triangles c.as_chunks-2.ensures.front c.deref-2.ensures.value c.loop-a-test.false writable.triangle_count))
          c.loop-a.invariant;
    }
