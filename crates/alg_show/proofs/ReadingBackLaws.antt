-- What is shown reads back.
use Rattle.std.proofs.Common.{◌≡◌, ℕ, List, [], ◌++◌, Bool, true, false, ◌||◌, refl, ap, sym, ◌∙◌, subst}
use Rattle.alg_terms.specs.declared.sorts.Sort.{Sort}
use Rattle.alg_terms.specs.declared.sorts.Sort.TheVariants.{Nat}
use Rattle.alg_terms.specs.declared.relations.Rel.{Rel}
use Rattle.alg_terms.specs.declared.relations.Rel.TheVariants.{Eq, Ne, Lt, Le, Dvd}
use Rattle.alg_terms.specs.Tree as terms
use Rattle.alg_law.specs.declared.classes.Class.TheVariants.{LinearOrder}
use Rattle.alg_law.specs.Declarations.{Declaration}
use Rattle.alg_law.specs.Following.{IsWellFormed}
use Rattle.alg_law.specs.WellSorted.{has_relation, IsStatement}
use Rattle.alg_names.specs.declared.scope.Scope.{Scope}
use Rattle.alg_names.specs.InForce.{instances, relates}
use Rattle.alg_elaborate.specs.declared.causes.Cause.TheVariants as cause
use Rattle.alg_elaborate.specs.Raw.{Raw, meant}
use Rattle.alg_elaborate.specs.Regions.{leaves, first_known, sort_or}
use Rattle.alg_elaborate.specs.Faults.{faults}
use Rattle.alg_elaborate.specs.TypedTrees.{typed}
use Rattle.alg_elaborate.specs.Statements.{relation_of as read_relation, exchanges, statement_sort, relation_faults, statement_faults, ordered, typed_statement}
use Rattle.alg_well_sorted.proofs.Parts.{has_same}
use Rattle.alg_show.specs.Notation.{relation_of}
use Rattle.alg_show.specs.Knowing.{knows, default_of, sides_ask}
use Rattle.alg_show.specs.Unparenthesized.{raw}
use Rattle.alg_show.specs.Shown.{shown, shown_statement}
use Rattle.alg_show.specs.Tasks.{AreSidesNarrow}
use Rattle.alg_show.specs.Text.{shown_text}
use Rattle.alg_show.specs.ReadingBack.{AllWritable, in_force, AreDeclarable, ReadsBack}
use Rattle.alg_syntax.specs.Commands.{spell_statement, FitsStatement}
use Rattle.alg_show.proofs.Passing.{Passes}
use Rattle.alg_show.proofs.Scoped.{Stands, stands}
use Rattle.alg_show.proofs.Fitting.{shown_good, shown_meant}
use Rattle.alg_show.proofs.Written.{Ends, ends_nil, sides_pass, all_signs}
use Rattle.alg_show.proofs.Reading.{ReadsAs, of_sort_k, settled, two_known, two_asked, both_none, when_not}
use Rattle.alg_show.proofs.Symbols.{reads}

same_relation : (r : Rel) → read_relation (relation_of r) ≡ r
same_relation Eq = refl
same_relation Ne = refl
same_relation Lt = refl
same_relation Le = refl
same_relation Dvd = refl

in_order : (r : Rel) → exchanges (relation_of r) ≡ false
in_order Eq = refl
in_order Ne = refl
in_order Lt = refl
in_order Le = refl
in_order Dvd = refl

relation_same : (s : Scope) (ds : List Declaration) → Stands s ds → (k : Sort) (r : Rel) → has_relation (instances s) r k ≡ has_relation ds r k
relation_same s ds st k Eq = refl
relation_same s ds st k Ne = refl
relation_same s ds st k Lt = has_same s ds st.agrees k LinearOrder
relation_same s ds st k Le = has_same s ds st.agrees k LinearOrder
relation_same s ds st k Dvd = refl

module _ (s : Scope) (ds : List Declaration) (st : Stands s ds) (w : AllWritable ds) (p : terms.Statement) (h : IsStatement ds p) (n : AreSidesNarrow ds p) where
  abbrev ask : Bool
  ask = sides_ask p.sort p.lhs p.rhs

  abbrev left : Raw
  left = raw ds ask p.lhs

  abbrev right : Raw
  right = raw ds false p.rhs

  left_reads : ReadsAs s ds st p.sort p.lhs (λ b. raw ds b p.lhs) (knows p.lhs) (default_of p.lhs)
  left_reads = of_sort_k s ds st p.sort p.lhs h.left_sort (reads s ds st w p.lhs h.left)

  right_reads : ReadsAs s ds st p.sort p.rhs (λ b. raw ds b p.rhs) (knows p.rhs) (default_of p.rhs)
  right_reads = of_sort_k s ds st p.sort p.rhs h.right_sort (reads s ds st w p.rhs h.right)

  left_meant : meant (shown left) ≡ left
  left_meant = shown_meant left (left_reads.proper ask)

  right_meant : meant (shown right) ≡ right
  right_meant = shown_meant right (right_reads.proper false)

  sort_read : statement_sort s (shown_statement ds p) ≡ p.sort
  sort_read =
      ap (λ x. sort_or Nat (first_known s (leaves s x ++ leaves s (meant (shown right))))) left_meant
      ∙ (ap (λ x. sort_or Nat (first_known s (leaves s left ++ leaves s x))) right_meant
      ∙ settled s ds st p.sort (λ b. leaves s (raw ds b p.lhs) ++ leaves s right) (knows p.lhs || knows p.rhs) Nat ask
      (two_asked s ds st p.sort (leaves s (raw ds true p.lhs)) (leaves s right) left_reads.asked)
      (two_known s ds st p.sort (leaves s (raw ds false p.lhs)) (leaves s right) (knows p.lhs) (knows p.rhs) left_reads.known right_reads.known) refl)

  related : relation_faults s p.sort (relation_of p.rel) ≡ []
  related =
      when_not (relates s (read_relation (relation_of p.rel)) p.sort) cause.NoInstance
      (ap (λ r. relates s r p.sort) (same_relation p.rel) ∙ (relation_same s ds st p.sort p.rel ∙ h.related))

  pub no_faults : statement_faults s (shown_statement ds p) ≡ []
  no_faults =
      ap (λ k. relation_faults s k (relation_of p.rel) ++ (faults s false k (meant (shown left)) ++ faults s false k (meant (shown right)))) sort_read
      ∙ (ap (λ x. relation_faults s p.sort (relation_of p.rel) ++ (faults s false p.sort x ++ faults s false p.sort (meant (shown right)))) left_meant
      ∙ (ap (λ x. relation_faults s p.sort (relation_of p.rel) ++ (faults s false p.sort left ++ faults s false p.sort x)) right_meant
      ∙ both_none _ _ related (both_none _ _ (left_reads.faultless ask n.0) (right_reads.faultless false n.1))))

  abbrev made : Rel → Sort → terms.Tree → terms.Tree → terms.Statement
  made r k a b = record { rel = r; sort = k; lhs = a; rhs = b }

  pub says : typed_statement s (shown_statement ds p) ≡ p
  says =
      ap (λ k. ordered (exchanges (relation_of p.rel)) (read_relation (relation_of p.rel)) k (typed s k (meant (shown left))) (typed s k (meant (shown right)))) sort_read
      ∙ (ap (λ b. ordered b (read_relation (relation_of p.rel)) p.sort (typed s p.sort (meant (shown left))) (typed s p.sort (meant (shown right)))) (in_order p.rel)
      ∙ (ap (λ r. made r p.sort (typed s p.sort (meant (shown left))) (typed s p.sort (meant (shown right)))) (same_relation p.rel)
      ∙ (ap (λ x. made p.rel p.sort (typed s p.sort x) (typed s p.sort (meant (shown right)))) left_meant
      ∙ (ap (λ x. made p.rel p.sort (typed s p.sort left) (typed s p.sort x)) right_meant
      ∙ (ap (λ x. made p.rel p.sort x (typed s p.sort right)) (left_reads.typed ask n.0)
      ∙ ap (λ x. made p.rel p.sort p.lhs x) (right_reads.typed false n.1))))))

-- the text is on one line, and gives the tokens
pub passes_shown : (ds : List Declaration) (p : terms.Statement) → IsWellFormed ds → IsStatement ds p → AreSidesNarrow ds p → AreDeclarable ds → FitsStatement (shown_statement ds p) × ((rest : List ℕ) → Ends rest → Passes (shown_text ds p) (spell_statement (shown_statement ds p)) rest)
passes_shown ds p f h n d =
    let st = stands ds f d.new in
    let s = in_force ds in
    let k = shown_good (left s ds st d.writable p h n) ((left_reads s ds st d.writable p h n).proper (sides_ask p.sort p.lhs p.rhs)) n.0 in
    let l = shown_good (right s ds st d.writable p h n) ((right_reads s ds st d.writable p h n).proper false) n.1 in
    ((k.0, l.0), λ rest e. sides_pass (shown (left s ds st d.writable p h n)) (shown (right s ds st d.writable p h n)) p.rel rest k.1 l.1 e)

pub reads_back : (ds : List Declaration) (p : terms.Statement) (t : List ℕ) → IsWellFormed ds → IsStatement ds p → AreSidesNarrow ds p → t ≡ shown_text ds p → AreDeclarable ds → ReadsBack ds p t
reads_back ds p t f h n e d =
    let st = stands ds f d.new in
    let s = in_force ds in
    let k = passes_shown ds p f h n d in
    let a = all_signs (shown_text ds p) (spell_statement (shown_statement ds p)) (k.1 [] ends_nil) in
    subst (ReadsBack ds p) (sym e)
    record {
      faults = a.0;
      tokens = a.1;
      fits = k.0;
      faultless = no_faults s ds st d.writable p h n;
      meant = says s ds st d.writable p h n;
    }
