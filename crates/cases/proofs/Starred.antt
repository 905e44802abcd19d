-- Every starred case holds, by computing what each contract makes of it.
use Prim.Native.Nat.{ℕ}
use mathlib.Core.Path.{◌≡◌, refl, ap, ap₂, subst, ◌∙◌}
use mathlib.Core.List.{List, [], ◌∷◌}
use lib.ListN.{length}
use Rattle.word.specs.Sets.{count_below, least_from, top_below, nth}
use Rattle.word.specs.Places.{bit, pack, word_of, member, tab_from, words_of}
use Rattle.arch.specs.Scans.{filled_words}
use Rattle.storage.specs.Stores.{Outcome, and_then, no_words, checked, view, reading, reading_both, size, combined, found_below, within, bitmap_of}
use Rattle.storage.specs.Stores.{words_for, trimmed_count, word_at, written, zeroed, answer, store, outcome}
use Rattle.slice.specs.Slices.{equal, field_at}
use Rattle.scans.specs.Searches.{next_clear as clear_from}
use Rattle.bitwise.specs.Bitwise.{selected}
use Rattle.shifts.specs.Shifts.{moved_up, moved_down, turned_down, rotating_right}
use Rattle.bitmaps.specs.Bitmaps.{setting_region, tidied, flipping_bit}
use Rattle.setops.specs.Setops.{uniting}
use Rattle.shapes.specs.Shapes.{raising, lowered, truncated, tail_outcome, head_outcome, split_answer}
use Rattle.gap.specs.Gaps.{opening}
use Rattle.text.specs.Lists.{plain, covers, highest}
use Rattle.text.specs.Readings as read
use Rattle.print.specs.Texts.{runs_from, decimal_from, singles, pieces, printed, others, text}
use Rattle.sheet.specs.Bytes.{number}
use Rattle.sheet.specs.Kinds.{row_of, size_in, rule_of}
use Rattle.editions.specs.Reader as sheets
use Rattle.sheet.specs.Reads.{step, edition_of, course}
use Rattle.storage.specs.declared.Bitmap.{Bitmap}
use Rattle.print.specs.Texts.{list_answer, list_buffer}
use Rattle.register.specs.Register.{column, ended, line, pages_for, foot_of, line_of, lines_of, register_answer, register_buffer}
use Rattle.register.specs.Register as register
use Rattle.style.specs.Styles.{plain_style}
use Rattle.sheet.specs.Reads.{read_answer, read_store, reading_count}
use Rattle.cases.specs.Cases.{from_list_in, write_list_in, write_register}
use Rattle.cases.specs.Cases.{Question, from_list, next_clear, first_clear, get_field, select, eq, rotate_right, xori, split_off, read, zeros, whole, changed, found, counted}
use Rattle.cases.specs.Cases.{tested, parted, sheeted, listed, Comes, Sample, sample, Hold, starred, StarredHold, styled, StyledHold, faulted, FaultedHold, registered, RegisteredHold}
use Rattle.std.specs.Prelude.{Ok, Err}
use Rattle.sheet.specs.Reads.{Reading}
use Rattle.shapes.specs.Shapes.{Split}

-- a reading's answer, and its result printed
printing : Reading → List ℕ → List ℕ
printing r ws =
    let b = bitmap_of (reading_count r) in
    sheeted r (reading ws b Err (list_answer plain_style (zeros 16))) (reading ws b (λ e. zeros 16) (list_buffer plain_style (zeros 16)))

-- a call that came to the outcome o on the bitmap b in ws
changed_by : Outcome → Bitmap → List ℕ → List ℕ
changed_by o b ws = changed (answer o b) (store o ws b.count)

-- what the contract of a call makes of it
out_of : Question → List ℕ
out_of (from_list bytes c) = changed_by (outcome (read.reading_list plain_style bytes) (zeros c) no_words) no_words (zeros c)
out_of (from_list_in y bytes c) = changed_by (outcome (read.reading_list y bytes) (zeros c) no_words) no_words (zeros c)
out_of (write_list_in y ws n) = listed (reading ws (whole ws) Err (list_answer y (zeros n))) (reading ws (whole ws) (λ e. zeros n) (list_buffer y (zeros n)))
out_of (write_register ws n) = listed (reading ws (whole ws) Err (register_answer (zeros n))) (reading ws (whole ws) (λ e. zeros n) (register_buffer (zeros n)))
out_of (next_clear ws i) = counted (reading ws (whole ws) Err (λ s. Ok (clear_from s i)))
out_of (first_clear ws) = counted (reading ws (whole ws) Err (λ s. Ok (clear_from s 0)))
out_of (get_field ws i width) = counted (reading ws (whole ws) Err (field_at i width))
out_of (select ws k) = found (reading ws (whole ws) Err (selected k))
out_of (eq ws os) = tested (reading_both ws (whole ws) os (whole os) Err (λ s t. Ok (equal s t)))
out_of (rotate_right ws k) = changed_by (outcome (rotating_right k) ws (whole ws)) (whole ws) ws
out_of (xori ws n i) = changed_by (outcome (flipping_bit i) ws (bitmap_of n)) (bitmap_of n) ws
out_of (split_off ws at c) =
    let h = head_outcome at ws (whole ws) (zeros c) in
    let t = tail_outcome at ws (whole ws) (zeros c) in
    parted (split_answer h t (whole ws)) (store h ws (length ws)) (store t (zeros c) 0)
out_of (read e sheet c) = let k = course e sheet [] no_words (zeros c) in printing (read_answer k) (read_store k (zeros c))

comes : (a : Question) → Comes a (out_of a)
unfolding printing changed_by out_of
comes (from_list bytes c) = λ r ws h. ap₂ changed h.answers h.leaves
comes (from_list_in y bytes c) = λ r ws h. ap₂ changed h.answers h.leaves
comes (write_list_in y ws n) = λ r bytes h. ap₂ listed h.answers h.leaves
comes (write_register ws n) = λ r bytes h. ap₂ listed h.answers h.leaves
comes (next_clear ws i) = λ r h. ap counted h
comes (first_clear ws) = λ r h. ap counted h
comes (get_field ws i width) = λ r h. ap counted h
comes (select ws k) = λ r h. ap found h
comes (eq ws os) = λ r h. ap tested h
comes (rotate_right ws k) = λ r ws' h. ap₂ changed h.answers h.leaves
comes (xori ws n i) = λ r ws' h. ap₂ changed h.answers h.leaves
comes (split_off ws at c) = λ r ws' ts h.
    let h₀ = head_outcome at ws (whole ws) (zeros c) in
    let t₀ = tail_outcome at ws (whole ws) (zeros c) in
    ap (λ (x : Split). parted x ws' ts) h.answers ∙ ap₂ (parted (split_answer h₀ t₀ (whole ws))) h.head h.tail
comes (read e sheet c) = λ r ws p bytes h q.
    ap₂ (sheeted r) q.answers q.leaves
    ∙ ap₂ printing h.answers h.leaves

again : List Sample → List Sample
again [] = []
again (r ∷ rs) = sample r.asked (out_of r.asked) ∷ again rs

each : (rs : List Sample) → Hold (again rs)
unfolding again
each [] = tt
each (r ∷ rs) = (comes r.asked, each rs)

-- the rows, computed
computed : again starred ≡ starred
unfolding count_below least_from top_below nth bit pack word_of member tab_from words_of filled_words and_then checked view reading reading_both size combined found_below
    within words_for trimmed_count word_at written zeroed answer store outcome equal field_at clear_from selected moved_up moved_down turned_down rotating_right
    setting_region uniting tidied flipping_bit raising lowered truncated tail_outcome head_outcome split_answer opening plain covers highest read.kind
    read.value read.token read.empty read.by_kind read.next read.reads read.parsed read.parse read.reading_list runs_from decimal_from singles pieces printed others text
    number row_of size_in rule_of sheets.act sheets.records sheets.read step edition_of course printing changed_by out_of again
computed = refl

pub starred_hold : StarredHold
starred_hold = subst Hold computed (each starred)

styles_computed : again styled ≡ styled
unfolding bit pack word_of member tab_from words_of checked view reading within words_for word_at written zeroed answer store outcome plain covers highest read.kind
    read.value read.token read.empty read.by_kind read.next read.reads read.parsed read.parse read.reading_list runs_from decimal_from singles pieces printed others text
    changed_by out_of again
styles_computed = refl

pub styled_hold : StyledHold
styled_hold = subst Hold styles_computed (each styled)

faults_computed : again faulted ≡ faulted
unfolding checked view within answer store outcome plain covers highest read.kind
    read.value read.token read.empty read.by_kind read.next read.reads read.parsed read.parse read.reading_list changed_by out_of again
faults_computed = refl

pub faulted_hold : FaultedHold
faulted_hold = subst Hold faults_computed (each faulted)

registers_computed : again registered ≡ registered
unfolding count_below bit member checked view reading size runs_from decimal_from column ended line register.row_of pages_for foot_of line_of lines_of out_of again
registers_computed = refl

pub registered_hold : RegisteredHold
registered_hold = subst Hold registers_computed (each registered)
