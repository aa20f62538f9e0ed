-- What a load kind is, and the laws that every kind owes.
use Rattle.std.specs.Prelude.{Bool, false, if◌then◌else◌, ◌≡◌, ℕ, ◌+◌, ◌≤◌, ◌<◌, nat_le}
use Rattle.load.specs.declared.rating.Rating.{Rating}
use Rattle.load.specs.Ratings.{most_part}

-- which ratings are lawful, what load a rating is, the empty load, the sum of two, what a load measures, and its size
pub record Kind (L : Type 0) : Type 0 where
  pub lawful : Rating → Bool
  pub load : Rating → L
  pub none : L
  pub plus : L → L → L
  pub measure : L → ℕ
  pub size : L → ℕ

-- the laws of sums are owed where the sizes of all parts add to at most this
abbrev pub most_size : ℕ
most_size = 64_000_000

-- a sum, or the empty load where the sizes add to more
abbrev pub if_fits : {L : Type 0} → ℕ → L → L → L
if_fits size sum none = if nat_le size most_size then sum else none

pub record Laws {L : Type 0} (K : Kind L) : Type 0 where
  pub commutes : (x y : L) → K.size x + K.size y ≤ most_size → K.plus x y ≡ K.plus y x
  pub associates : (x y z : L) → K.size x + K.size y + K.size z ≤ most_size → K.plus (K.plus x y) z ≡ K.plus x (K.plus y z)
  pub neutral : (x : L) → K.size x ≤ most_size → K.plus K.none x ≡ x
  pub none_measure : K.measure K.none ≡ 0
  pub none_size : K.size K.none ≡ 0
  pub grows : (x y : L) → K.size x + K.size y ≤ most_size → K.measure x ≤ K.measure (K.plus x y)
  pub plus_size : (x y : L) → K.size (K.plus x y) ≤ K.size x + K.size y
  pub bounded : (x : L) → K.size x ≤ most_size → K.measure x ≤ 200_000_000
  pub part_size : (r : Rating) → K.size (K.load r) ≤ most_part
  pub unlawful : (r : Rating) → K.lawful r ≡ false → K.load r ≡ K.none
  pub beyond : (x y : L) → most_size < K.size x + K.size y → K.plus x y ≡ K.none
