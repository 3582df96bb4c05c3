-- The rows of a sound store (document 01: lane by lane): where they lie, how many they are, and which of them meet a
-- question.
-- In order: lists, as helpers; the partitions of a plan; the rows of a partition; what a scan from a partition reads; a
-- row that meets a question.
-- Assumes nothing.
use mathlib.Core.Bool.{Bool, true, false, ◌&&◌}
use mathlib.Core.List.{List, [], ◌∷◌}
use mathlib.Core.Path.{◌≡◌, refl, sym, ap, ◌∙◌}
use Prim.Native.Nat.{ℕ, zero, suc, ◌+◌, ◌-◌, ◌*◌, ◌≤◌, ◌<◌}
use native.Mathlib.Nat.{suc-mul}
use native.Mathlib.Omega.{arith}
use lib.Dec.{leb, eqb}
use lib.ListN.{length, length-take}
use borrow.Author.Tests.{leb-true, le-leb, eqb-true, eq-eqb}
use Rattle.lists.specs.Choice.{pick}
use Rattle.lists.specs.Members.{all, tally, total, up_from}
use Rattle.lists.proofs.Choice.{and_left, and_right, and_both}
use Rattle.lists.proofs.Tally.{total-agree, tally-total, total-zero}
use Rattle.label.specs.Label.{label_check}
use Rattle.interval.specs.Time.{calendar_end, contains}
use Rattle.interval.specs.Tuple.{row_width, row_to, legal_row}
use Rattle.interval.specs.declared.tuple.Row.{Row}
use Rattle.interval.proofs.Tuples.{legal-row, valid-ok}
use Rattle.plan.specs.Plan.{cuts_of, home_of, home, most_rows, plan_number}
use Rattle.plan.specs.declared.Partitioning.{Partitioning}
use Rattle.plan.proofs.Homes.{legal-plan, home-most, home-within, home-rises, home-above, cut_most}
use Rattle.part.specs.Part.{counted, rows_in}
use Rattle.part.proofs.Parts.{length-rows, sound-count}
use Rattle.store.specs.Store.{row_room, row_part, row_at_home, sound_row_part}
use Rattle.store.proofs.Stores.{sound-rows-at, rows-at-home}
use Rattle.rows.specs.Partners.{Roomy}
use Rattle.checks.specs.Stores.{rows_number, SoundStore}
use Rattle.checks.proofs.Checks.{sound-store}
use Rattle.question.specs.Question.{legal_question, row_meets, stored_from}
use Rattle.question.specs.Steps.{answer_end}
use Rattle.question.specs.declared.Question.{Question}

-- ---- lists

module _ {A : Type 0} where
  -- tests that agree at each member that passes another
  pub tally-agree : (p f g : A → Bool) (xs : List A) → all p xs ≡ true → ((x : A) → p x ≡ true → f x ≡ g x)
      → tally f xs ≡ tally g xs
  tally-agree p f g xs e h =
      tally-total f xs
      ∙ total-agree p (λ x. pick (f x) 1 0) (λ x. pick (g x) 1 0) xs e (λ x k. ap (λ (b : Bool). pick b 1 0) (h x k))
      ∙ sym (tally-total g xs)

  -- a test that holds of none
  pub tally-never : (xs : List A) → tally (λ x. false) xs ≡ 0
  tally-never xs = tally-total (λ x. false) xs ∙ total-zero xs

  -- a tally or nothing, as a tally
  pub pick-tally : (b : Bool) (f : A → Bool) (xs : List A) → pick b (tally f xs) 0 ≡ tally (λ x. b && f x) xs
  pick-tally true f xs = refl
  pick-tally false f xs = sym (tally-never xs)

  -- a list each of whose members would be absurd
  none : (p : A → Bool) (xs : List A) → all p xs ≡ true → ((x : A) → p x ≡ true → ⊥) → length xs ≡ 0
  none p [] e h = refl
  none p (x ∷ xs) e h = absurd (h x (and_left (p x) (all p xs) e))

-- at most b at each of the numbers
total-up : (f : ℕ → ℕ) (b i m : ℕ) → ((j : ℕ) → i ≤ j → j < i + m → f j ≤ b) → total f (up_from i m) ≤ m * b
total-up f b i zero h = omega arith
total-up f b i (suc m) h =
    omega (
      arith,
      h i (omega arith) (omega arith),
      total-up f b (suc i) m (λ j l g. h j (omega arith) (omega arith)),
      suc-mul m b,
    )

-- ---- the partitions of a plan: one for each cut at most, so that of a chronon, or the number of cuts, is no more

cuts-most : (p : Partitioning) → length (cuts_of p) ≤ p.count
unfolding cuts_of
cuts-most p = simp length-take (omega arith)

pub home-inside : (p : Partitioning) (m : ℕ) → home p m ≤ p.count
unfolding home
home-inside p m = omega (arith, home-most (cuts_of p) m, cuts-most p)

-- a chronon past the calendar has no partition as early as one of the calendar
home-past-calendar : (p : Partitioning) → plan_number p ≡ 0 → (m : ℕ) → m ≤ calendar_end
    → home p m < home p (calendar_end + 1)
unfolding home
home-past-calendar p legal m l =
    let covered = (legal-plan p legal).covered in
    let i = home_of (cuts_of p) m in
    let b = home-within (cuts_of p) covered m l in
    home-above (cuts_of p) covered i (calendar_end + 1) b (omega (arith, cut_most (cuts_of p) covered i b))

home-order : (p : Partitioning) (m n : ℕ) → m ≤ n → home p m ≤ home p n
unfolding home
home-order p m n l = home-rises (cuts_of p) m n l

-- ---- a row at home in partition i

pub record Resides (p : Partitioning) (i : ℕ) (r : Row) : Type 0 where
  pub label : label_check r.label ≡ 0
  pub ends : row_to r ≤ calendar_end
  pub at : home p (row_to r) ≡ i

pub resides : (p : Partitioning) (i : ℕ) (r : Row) → row_at_home p i r ≡ true → Resides p i r
unfolding row_at_home
resides p i r h =
    let legal = legal-row p.minimum r (and_left (legal_row p.minimum r) (eqb (home p (row_to r)) i) h) in
    record {
      label = legal.label;
      ends = (valid-ok r.valid legal.valid).1;
      at = eqb-true (home p (row_to r)) i (and_right (legal_row p.minimum r) (eqb (home p (row_to r)) i) h);
    }

module _ (p : Partitioning) (rows : List ℕ) (known : rows_number p rows ≡ 0) where
  store : SoundStore p rows
  store = sound-store p rows known

  -- ---- the rows of a partition: each at home there, no more than its room

  pub at_home : (i : ℕ) → i < p.count → all (row_at_home p i) (rows_in (row_part p rows i)) ≡ true
  at_home i l = rows-at-home p i (row_part p rows i) (sound-rows-at p rows store.sound i l)

  few : (i : ℕ) → i < p.count → counted (row_part p rows i) ≤ p.rows
  unfolding sound_row_part
  few i l = sound-count row_width p.rows _ (row_part p rows i) (sound-rows-at p rows store.sound i l)

  pub roomy : Roomy row_width (row_room p) p.count rows
  roomy = record { long = store.long; within = λ i l. omega (arith, few i l) }

  -- none in a partition that no chronon of the calendar is in
  unused : (i : ℕ) → i < p.count → home p (calendar_end + 1) ≤ i → counted (row_part p rows i) ≡ 0
  unused i l late =
      sym (length-rows (row_part p rows i)) ∙ none (row_at_home p i) (rows_in (row_part p rows i)) (at_home i l) never
    where
      never : (r : Row) → row_at_home p i r ≡ true → ⊥
      never r h =
          let here = resides p i r h in
          omega (arith, home-past-calendar p store.legal (row_to r) here.ends)

  -- ---- what is stored from a partition on: at most every row of the largest store, and nothing past the calendar

  pub stored-most : (i : ℕ) → i ≤ p.count → stored_from p rows i ≤ answer_end
  unfolding stored_from
  stored-most i l =
      let plan = legal-plan p store.legal in
      omega (
        arith,
        total-up (λ j. counted (row_part p rows j)) most_rows i (p.count - i)
            (λ j g h. omega (arith, few j (omega arith))),
      )

  pub stored-none : stored_from p rows (home p (calendar_end + 1)) ≡ 0
  unfolding stored_from
  stored-none =
      let i = home p (calendar_end + 1) in
      let inside = home-inside p (calendar_end + 1) in
      omega (
        arith,
        total-up (λ j. counted (row_part p rows j)) 0 i (p.count - i)
            (λ j g h. omega (arith, unused j (omega arith) g)),
      )

-- ---- a row that meets a question

-- it has the question's label, and the minute in its span
pub record Meets (q : Question) (r : Row) : Type 0 where
  pub label : r.label ≡ q.label
  pub first : r.valid.first.0 ≤ q.minute.0
  pub last : q.minute.0 ≤ row_to r

pub meets : (q : Question) (r : Row) → row_meets q r ≡ true → Meets q r
unfolding row_meets contains
meets q r h =
    let inside = and_right (eqb r.label q.label) (contains r.valid q.minute) h in
    let first = leb r.valid.first.0 q.minute.0 in
    let last = leb q.minute.0 (row_to r) in
    record {
      label = eqb-true r.label q.label (and_left (eqb r.label q.label) _ h);
      first = leb-true r.valid.first.0 q.minute.0 (and_left first last inside);
      last = leb-true q.minute.0 (row_to r) (and_right first last inside);
    }

-- where it is at home in a partition, the question is legal, and its minute in that partition or an earlier one
module _ (p : Partitioning) (i : ℕ) (q : Question) (r : Row) (here : Resides p i r) (met : Meets q r) where
  pub meets-legal : legal_question q ≡ true
  unfolding legal_question
  meets-legal =
      and_both (eqb (label_check q.label) 0) (leb q.minute.0 calendar_end)
      (eq-eqb (label_check q.label) 0 (ap label_check (sym met.label) ∙ here.label))
      (le-leb q.minute.0 calendar_end (omega arith))

  pub meets-from : (m : ℕ) → m ≤ q.minute.0 → home p m ≤ i
  meets-from m l = omega (arith, home-order p m (row_to r) (omega arith))
