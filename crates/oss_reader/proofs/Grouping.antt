use Rattle.std.proofs.Common.{◌≡◌, ℕ, ◌+◌, ◌-◌, ◌<◌, ◌≤◌, ◌⊎◌, max, true, List, ◌∷◌, refl, sym, subst, inl, inr, arith}
use Rattle.std.proofs.Common.{eq-or-lt_of_le}
use Rattle.oss_base.specs.declared.place.Span.{Span}
use Rattle.oss_syntax.specs.declared.expression.PrefixWord.{PrefixWord}
use Rattle.oss_syntax.specs.declared.expression.PrefixWord.TheVariants as prefix
use Rattle.oss_syntax.specs.declared.expression.BinaryWord.{BinaryWord}
use Rattle.oss_syntax.specs.declared.expression.BinaryWord.TheVariants as binary
use Rattle.oss_syntax.specs.declared.expression.Role.{Role}
use Rattle.oss_syntax.specs.declared.terminal.Mark.TheVariants as mark
use Rattle.oss_syntax.specs.Alphabet.{Terminal}
use Rattle.oss_syntax.specs.Alphabet as terminal
use Rattle.oss_syntax.specs.Expressions.{Tree, Name, Dotted, Numeral, Truth, Brackets, OfPort, Prefix, Binary, height, level, prefix_level, binary_level}
use Rattle.oss_syntax.specs.Expressions.{left_level, right_level, allows_binary}
use Rattle.oss_syntax.specs.Formulas.{Spells}
use Rattle.oss_reader.specs.Phrases.{EndsAtLevel, EndsLastOperand, HasInnerLeftEdge, HasLeftEdge, IsOperand, Phrase, OnlyPhrase, NoPhrase, PhrasesGoOnFrom}

-- the rows of the table of operators: how the levels of an operator's sides stand to its own
pub record Row (word : BinaryWord) : Type 0 where
  pub three : 3 ≤ binary_level word
  pub not_five : binary_level word ≡ 5 → ⊥
  pub left : left_level word ≤ binary_level word
  pub right : right_level word ≤ binary_level word
  pub ten : binary_level word ≤ 10
  pub groups_left : left_level word ≡ binary_level word → (binary_level word ≡ 6 → ⊥) × (binary_level word ≡ 9 → ⊥)
  pub keeps_right : (binary_level word ≡ 6 → ⊥) → (binary_level word ≡ 9 → ⊥) → right_level word < binary_level word

pub row : (word : BinaryWord) → Row word
row binary.Plus = record {
  three = omega arith;
  not_five = λ h. omega arith;
  left = omega arith;
  right = omega arith;
  ten = omega arith;
  groups_left =
      λ e. (λ h. omega arith, λ h. omega arith);
  keeps_right = λ six nine. omega arith;
}
row binary.Minus = record {
  three = omega arith;
  not_five = λ h. omega arith;
  left = omega arith;
  right = omega arith;
  ten = omega arith;
  groups_left =
      λ e. (λ h. omega arith, λ h. omega arith);
  keeps_right = λ six nine. omega arith;
}
row binary.Equal = record {
  three = omega arith;
  not_five = λ h. omega arith;
  left = omega arith;
  right = omega arith;
  ten = omega arith;
  groups_left =
      λ e. (λ h. omega arith, λ h. omega arith);
  keeps_right = λ six nine. omega arith;
}
row binary.NotEqual = record {
  three = omega arith;
  not_five = λ h. omega arith;
  left = omega arith;
  right = omega arith;
  ten =
      omega arith;
  groups_left = λ e. (λ h. omega arith, λ h. omega arith);
  keeps_right = λ six nine. omega arith;
}
row binary.Less = record {
  three = omega arith;
  not_five = λ h. omega arith;
  left = omega arith;
  right = omega arith;
  ten = omega arith;
  groups_left =
      λ e. (λ h. omega arith, λ h. omega arith);
  keeps_right = λ six nine. omega arith;
}
row binary.AtMost = record {
  three = omega arith;
  not_five = λ h. omega arith;
  left = omega arith;
  right = omega arith;
  ten = omega arith;
  groups_left =
      λ e. (λ h. omega arith, λ h. omega arith);
  keeps_right = λ six nine. omega arith;
}
row binary.Greater = record {
  three = omega arith;
  not_five = λ h. omega arith;
  left = omega arith;
  right = omega arith;
  ten =
      omega arith;
  groups_left = λ e. (λ h. omega arith, λ h. omega arith);
  keeps_right = λ six nine. omega arith;
}
row binary.AtLeast = record {
  three = omega arith;
  not_five = λ h. omega arith;
  left = omega arith;
  right = omega arith;
  ten =
      omega arith;
  groups_left = λ e. (λ h. omega arith, λ h. omega arith);
  keeps_right = λ six nine. omega arith;
}
row binary.Until = record {
  three = omega arith;
  not_five = λ h. omega arith;
  left = omega arith;
  right = omega arith;
  ten = omega arith;
  groups_left =
      λ e. (λ h. omega arith, λ h. omega arith);
  keeps_right = λ six nine. absurd (six refl);
}
row binary.Releases = record {
  three = omega arith;
  not_five = λ h. omega arith;
  left = omega arith;
  right = omega arith;
  ten =
      omega arith;
  groups_left = λ e. (λ h. omega arith, λ h. omega arith);
  keeps_right = λ six nine. absurd (six refl);
}
row binary.And = record {
  three = omega arith;
  not_five = λ h. omega arith;
  left = omega arith;
  right = omega arith;
  ten = omega arith;
  groups_left =
      λ e. (λ h. omega arith, λ h. omega arith);
  keeps_right = λ six nine. omega arith;
}
row binary.Or = record {
  three = omega arith;
  not_five = λ h. omega arith;
  left = omega arith;
  right = omega arith;
  ten = omega arith;
  groups_left =
      λ e. (λ h. omega arith, λ h. omega arith);
  keeps_right = λ six nine. omega arith;
}
row binary.Implies = record {
  three = omega arith;
  not_five = λ h. omega arith;
  left = omega arith;
  right = omega arith;
  ten =
      omega arith;
  groups_left = λ e. (λ h. omega arith, λ h. omega arith);
  keeps_right = λ six nine. absurd (nine refl);
}
row binary.Iff = record {
  three = omega arith;
  not_five = λ h. omega arith;
  left = omega arith;
  right = omega arith;
  ten = omega arith;
  groups_left =
      λ e. (λ h. omega arith, λ h. omega arith);
  keeps_right = λ six nine. omega arith;
}

-- what follows an operand on the left binds more loosely than what the operand's own operator wants
tight_equal : (a b : BinaryWord) → binary_level a ≤ left_level b → binary_level a ≡ binary_level b
    → right_level a < binary_level b
tight_equal a b h e =
    let rb = row b in
    let grouped : left_level b ≡ binary_level b = omega arith in
    let no = rb.groups_left grouped in
    let six : binary_level a ≡ 6 → ⊥ = λ s. no.0 (omega arith) in
    let nine : binary_level a ≡ 9 → ⊥ = λ s. no.1 (omega arith) in
    let less : right_level a < binary_level a = (row a).keeps_right six nine in
    omega arith

pub tight_after : (a b : BinaryWord) → binary_level a ≤ left_level b → right_level a < binary_level b
tight_after a b h =
    let ra = row a in
    let rb = row b in
    let least : binary_level a ≤ binary_level b = omega arith in
    elim (eq-or-lt_of_le least) [ inl e ↦ tight_equal a b h e | inr l ↦ omega arith ]

prefix_two_or_five : (p : PrefixWord) → (prefix_level p ≡ 2) ⊎ (prefix_level p ≡ 5)
prefix_two_or_five prefix.Minus = inl refl
prefix_two_or_five prefix.Not = inr refl
prefix_two_or_five prefix.Always = inr refl
prefix_two_or_five prefix.Never = inr refl
prefix_two_or_five prefix.Future = inr refl
prefix_two_or_five prefix.Then = inr refl

pub tight_prefix : (p : PrefixWord) (b : BinaryWord) → prefix_level p ≤ left_level b → prefix_level p < binary_level b
tight_prefix p b h =
    let rb = row b in
    elim (prefix_two_or_five p) [
      | inl two ↦ omega arith
      | inr five ↦ let least : 5 ≤ binary_level b = omega arith in
          elim (eq-or-lt_of_le least) [ inl e ↦ absurd (rb.not_five (sym e)) | inr l ↦ omega arith ]
    ]

pub height-pos : (t : Tree) → 1 ≤ height t
height-pos (Name _) = omega arith
height-pos (Dotted _ _) = omega arith
height-pos (Numeral _ _) = omega arith
height-pos (Truth _ _) = omega arith
height-pos (Brackets inside _) = omega arith
height-pos (OfPort _ _ _) = omega arith
height-pos (Prefix _ operand _) = omega arith
height-pos (Binary _ left right _) = omega arith

pub level-ten : (t : Tree) → level t ≤ 10
level-ten (Name _) = omega arith
level-ten (Dotted _ _) = omega arith
level-ten (Numeral _ _) = omega arith
level-ten (Truth _ _) = omega arith
level-ten (Brackets inside _) = omega arith
level-ten (OfPort _ _ _) = omega arith
level-ten (Prefix p operand _) = elim (prefix_two_or_five p) [ inl e ↦ omega arith | inr e ↦ omega arith ]
level-ten (Binary word left right _) = (row word).ten

pub stops_less : (j k : ℕ) (r : List Terminal) → j ≤ k → EndsAtLevel k r → EndsAtLevel j r
stops_less j k r h s = record {
  dot = s.dot;
  binary = λ word span more e. let l : k < binary_level word = s.binary word span more e in omega arith;
}

pub stops_before : (k : ℕ) (word : BinaryWord) (span : Span) (mid : List Terminal) → k < binary_level word
    → EndsAtLevel k (terminal.Binary word span ∷ mid)
stops_before k word span mid h = record {
  dot = λ s m e. cc;
  binary = λ w s m e. let same : word ≡ w = cc in let P : BinaryWord → Type 0 = λ x. k < binary_level x in subst P same h;
}

pub ends_phrase : (k : ℕ) (t : Tree) (r : List Terminal) → level t ≤ k → EndsAtLevel k r → EndsLastOperand t r
ends_phrase k t r h s = record {
  after_prefix = λ p l. stops_less (prefix_level p) k r (omega arith) s;
  after_binary = λ w l. let right = (row w).right in stops_less (right_level w) k r (omega arith) s;
  dot = s.dot;
}

pub ends_spine : (a : Tree) (word : BinaryWord) (span : Span) (mid : List Terminal) → level a ≤ left_level word
    → EndsLastOperand a (terminal.Binary word span ∷ mid)
ends_spine a word span mid h = record {
  after_prefix = λ p l. stops_before (prefix_level p) word span mid (tight_prefix p word (omega arith));
  after_binary = λ w l. stops_before (right_level w) word span mid (tight_after w word (omega arith));
  dot = λ s m e. cc;
}

-- `o` is the first operand of the tree, with `left` after it
pub record FirstOperand (role : Role) (ts : List Terminal) (o : Tree) (left : List Terminal) (t : Tree)
    (r : List Terminal) : Type 0 where
  pub spells : Spells role ts o left
  pub operand : IsOperand o
  pub extends : HasLeftEdge role o left t r
  pub level : level o ≤ level t
  pub height : height o ≤ height t
  pub ends : EndsLastOperand o left

pub first_operand : (role : Role) (ts : List Terminal) (t : Tree) (r : List Terminal) → Spells role ts t r
    → EndsLastOperand t r
    → (o : Tree) × (left : List Terminal) × FirstOperand role ts o left t r
first_operand role ts (Name word) r s e = (
  Name word,
  r,
  record {
    spells = s;
    operand = tt;
    extends = inl (refl, refl);
    level = omega arith;
    height =
        omega arith;
    ends = e;
  },
)
first_operand role ts (Dotted sub port) r s e = (
  Dotted sub port,
  r,
  record {
    spells = s;
    operand = tt;
    extends = inl (refl, refl);
    level =
        omega arith;
    height = omega arith;
    ends = e;
  },
)
first_operand role ts (Numeral value span) r s e = (
  Numeral value span,
  r,
  record {
    spells = s;
    operand = tt;
    extends = inl (refl, refl);
    level =
        omega arith;
    height = omega arith;
    ends = e;
  },
)
first_operand role ts (Truth truth span) r s e = (
  Truth truth span,
  r,
  record {
    spells = s;
    operand = tt;
    extends = inl (refl, refl);
    level =
        omega arith;
    height = omega arith;
    ends = e;
  },
)
first_operand role ts (Brackets inside span) r s e = (
  Brackets inside span,
  r,
  record {
    spells = s;
    operand = tt;
    extends = inl (refl, refl);
    level =
        omega arith;
    height = omega arith;
    ends = e;
  },
)
first_operand role ts (OfPort word port span) r s e =
    (OfPort word port span, r, record { spells = s; operand = tt; extends = inl (refl, refl); level = omega arith; height = omega arith; ends = e })
first_operand role ts (Prefix word operand span) r s e = (
  Prefix word operand span,
  r,
  record {
    spells = s;
    operand = tt;
    extends = inl (refl, refl);
    level = omega arith;
    height = omega arith;
    ends =
        e;
  },
)
first_operand role ts (Binary word a b span) r s e =
    let ih = first_operand role ts a (terminal.Binary word span ∷ s.3) s.4 (ends_spine a word span s.3 s.1) in
    let f = ih.2 in
    let level_least = f.level in
    let height_least = f.height in
    let allowed_left = s.1 in
    let rw_left = (row word).left in (
      ih.0,
      ih.1,
      record {
        spells = f.spells;
        operand = f.operand;
        extends = inr (s.3, f.extends, s.0, s.1, s.2, s.5);
        level = omega arith;
        height = omega arith;
        ends = f.ends;
      },
    )

-- the first operator after `left`, its right operand and what is left after that
pub record NextOperator (role : Role) (left : Tree) (word : BinaryWord) (span : Span) (mid : List Terminal) (b : Tree)
    (after : List Terminal)
    (t : Tree) (r : List Terminal) : Type 0 where
  pub allowed : allows_binary role word ≡ true
  pub left_binds : level left ≤ left_level word
  pub right_binds : level b ≤ right_level word
  pub spells : Spells role mid b after
  pub stops : EndsAtLevel (right_level word) after
  pub level : binary_level word ≤ level t
  pub height : max (height left) (height b) + 1 ≤ height t
  pub extends : HasLeftEdge role (Binary word left b span) after t r

next_here : (role : Role) (left : Tree) (word : BinaryWord) (span : Span) (mid : List Terminal) (w : BinaryWord)
    (a b : Tree) (s : Span) (m r : List Terminal)
    → a ≡ left → terminal.Binary w s ∷ m ≡ terminal.Binary word span ∷ mid
    → NextOperator role a w s m b r (Binary w a b s) r → NextOperator role left word span mid b r (Binary w a b s) r
next_here role left word span mid w a b s m r ea e here =
    let same_word : w ≡ word = cc in
    let same_span : s ≡ span = cc in
    let same_mid : m ≡ mid = cc in
    subst (λ (x : Tree). NextOperator role x word span mid b r (Binary w a b s) r) ea
    (subst (λ (x : List Terminal). NextOperator role a word span x b r (Binary w a b s) r) same_mid
    (subst (λ (x : Span). NextOperator role a word x m b r (Binary w a b s) r) same_span
    (subst (λ (x : BinaryWord). NextOperator role a x s m b r (Binary w a b s) r) same_word here)))

pub next_operator : (role : Role) (left : Tree) (word : BinaryWord) (span : Span) (mid : List Terminal) (t : Tree)
    (r : List Terminal)
    → HasInnerLeftEdge role left (terminal.Binary word span ∷ mid) t r → EndsLastOperand t r
    → (b : Tree) × (after : List Terminal) × NextOperator role left word span mid b after t r
next_operator role left word span mid (Name _) r h ends = absurd h
next_operator role left word span mid (Dotted _ _) r h ends = absurd h
next_operator role left word span mid (Numeral _ _) r h ends = absurd h
next_operator role left word span mid (Truth _ _) r h ends = absurd h
next_operator role left word span mid (Brackets _ _) r h ends = absurd h
next_operator role left word span mid (OfPort _ _ _) r h ends = absurd h
next_operator role left word span mid (Prefix _ _ _) r h ends = absurd h
next_operator role left word span mid (Binary w a b s) r h ends =
    elim h.1 [
      | inl e ↦ (
        b,
        r,
        next_here role left word span mid w a b s h.0 r e.0 e.1 (record {
          allowed = h.2;
          left_binds = h.3;
          right_binds = h.4;
          spells = h.5;
          stops = ends.after_binary w (omega arith);
          level = omega arith;
          height = omega arith;
          extends = inl (refl, refl);
        }),
      )
      | inr longer ↦
          let ih = next_operator role left word span mid a (terminal.Binary w s ∷ h.0) longer (ends_spine a w s h.0 h.3) in
          let n = ih.2 in
          let least = n.level in
          let high = n.height in
          let binds = h.3 in
          let rows = (row w).left in (
            ih.0,
            ih.1,
            record {
              allowed = n.allowed;
              left_binds = n.left_binds;
              right_binds = n.right_binds;
              spells = n.spells;
              stops = n.stops;
              level = omega arith;
              height = omega arith;
              extends = inr (h.0, n.extends, h.2, h.3, h.4, h.5);
            },
          )
    ]

-- HasInnerLeftEdge begins with an operator
pub longer_begins : (role : Role) (left : Tree) (rest : List Terminal) (t : Tree) (r : List Terminal)
    → HasInnerLeftEdge role left rest t r
    → (word : BinaryWord) × (span : Span) × (mid : List Terminal) × (rest ≡ terminal.Binary word span ∷ mid) ×
    (binary_level word ≤ level t)
longer_begins role left rest (Name _) r h = absurd h
longer_begins role left rest (Dotted _ _) r h = absurd h
longer_begins role left rest (Numeral _ _) r h = absurd h
longer_begins role left rest (Truth _ _) r h = absurd h
longer_begins role left rest (Brackets _ _) r h = absurd h
longer_begins role left rest (OfPort _ _ _) r h = absurd h
longer_begins role left rest (Prefix _ _ _) r h = absurd h
longer_begins role left rest (Binary w a b s) r h =
    elim h.1 [
      | inl e ↦ (w, s, h.0, sym e.1, omega arith)
      | inr longer ↦
          let ih = longer_begins role left rest a (terminal.Binary w s ∷ h.0) longer in
          let least = ih.4 in
          let binds = h.3 in
          let rows = (row w).left in
          (ih.0, ih.1, ih.2, ih.3, omega arith)
    ]

pub only_here : (role : Role) (room k : ℕ) (ts : List Terminal) (left : Tree) (rest : List Terminal)
    → PhrasesGoOnFrom role room k ts left rest → EndsAtLevel k rest → OnlyPhrase role room k ts left rest
only_here role room k ts left rest b stops = record {
  phrase = record { spells = b.spells; level = b.level; height = b.height; stops = stops };
  only = λ t r p.
      elim (b.all t r p) [
        | inl e ↦ e
        | inr longer ↦
            let n = longer_begins role left rest t r longer in
            let low = p.level in
            let least = n.4 in
            let past = stops.binary n.0 n.1 n.2 n.3 in
            absurd (omega arith)
      ];
}

-- what comes next stands in no phrase: a dot
pub never_dot : (role : Role) (room k : ℕ) (ts : List Terminal) (left : Tree) (rest : List Terminal) (span : Span)
    (more : List Terminal)
    → PhrasesGoOnFrom role room k ts left rest → rest ≡ terminal.Mark mark.Dot span ∷ more → NoPhrase role room k ts
never_dot role room k ts left rest span more b e = λ t r p.
    elim (b.all t r p) [
      | inl same ↦ let there : r ≡ terminal.Mark mark.Dot span ∷ more = cc in p.stops.dot span more there
      | inr longer ↦ let n = longer_begins role left rest t r longer in let other = n.3 in cc
    ]

-- what a phrase has at an operator that stands after `left`
pub record Goes (role : Role) (room k : ℕ) (ts : List Terminal) (left : Tree) (word : BinaryWord) (span : Span)
    (mid : List Terminal) (t : Tree)
    (r : List Terminal) : Type 0 where
  pub operand : Tree
  pub after : List Terminal
  pub allowed : allows_binary role word ≡ true
  pub left_binds : level left ≤ left_level word
  pub low : height left + 1 ≤ room
  pub phrase : Phrase role (room - 1) (right_level word) mid operand after
  pub extends : HasLeftEdge role (Binary word left operand span) after t r

pub goes : (role : Role) (room k : ℕ) (ts : List Terminal) (left : Tree) (rest : List Terminal) (word : BinaryWord)
    (span : Span) (mid : List Terminal)
    → PhrasesGoOnFrom role room k ts left rest → rest ≡ terminal.Binary word span ∷ mid → binary_level word ≤ k
    → (t : Tree) (r : List Terminal) → Phrase role room k ts t r → Goes role room k ts left word span mid t r
goes role room k ts left rest word span mid b e least t r p =
    elim (b.all t r p) [
      | inl same ↦
          let there : r ≡ terminal.Binary word span ∷ mid = cc in
          let past = p.stops.binary word span mid there in
          absurd (omega arith)
      | inr longer ↦
          let here = subst (λ (x : List Terminal). HasInnerLeftEdge role left x t r) e longer in
          let n = next_operator role left word span mid t r here (ends_phrase k t r p.level p.stops) in
          let high = n.2.height in
          let limit = p.height in
          record {
            operand = n.0;
            after = n.1;
            allowed = n.2.allowed;
            left_binds = n.2.left_binds;
            low = omega arith;
            phrase = record { spells = n.2.spells; level = n.2.right_binds; height = omega arith; stops = n.2.stops };
            extends = n.2.extends;
          }
    ]

-- the operator may not stand there, or its right operand is none
pub never_operator : (role : Role) (room k : ℕ) (ts : List Terminal) (left : Tree) (rest : List Terminal)
    (word : BinaryWord) (span : Span) (mid : List Terminal)
    → PhrasesGoOnFrom role room k ts left rest → rest ≡ terminal.Binary word span ∷ mid → binary_level word ≤ k
    → (allows_binary role word ≡ true → level left ≤ left_level word → height left + 1 ≤ room → NoPhrase role
    (room - 1) (right_level word) mid)
    → NoPhrase role room k ts
never_operator role room k ts left rest word span mid b e least refused t r p =
    let g = goes role room k ts left rest word span mid b e least t r p in
    refused g.allowed g.left_binds g.low g.operand g.after g.phrase

-- one operator and its right operand more are read
pub begins_more : (role : Role) (room k : ℕ) (ts : List Terminal) (left : Tree) (rest : List Terminal)
    (word : BinaryWord) (span : Span) (mid : List Terminal) (right : Tree) (after : List Terminal)
    → PhrasesGoOnFrom role room k ts left rest → rest ≡ terminal.Binary word span ∷ mid → binary_level word ≤ k
    → allows_binary role word ≡ true → level left ≤ left_level word → height left + 1 ≤ room
    → OnlyPhrase role (room - 1) (right_level word) mid right after
    → PhrasesGoOnFrom role room k ts (Binary word left right span) after
begins_more role room k ts left rest word span mid right after b e least allowed binds low o =
    let there = subst (λ (x : List Terminal). Spells role ts left x) e b.spells in
    let high = o.phrase.height in
    record {
      spells = (allowed, binds, o.phrase.level, mid, there, o.phrase.spells);
      level = least;
      height = omega arith;
      all = λ t r p.
          let g = goes role room k ts left rest word span mid b e least t r p in
          let same = o.only g.operand g.after g.phrase in
          let one = subst (λ (x : Tree). HasLeftEdge role (Binary word left x span) g.after t r) same.0 g.extends in
          subst (λ (x : List Terminal). HasLeftEdge role (Binary word left right span) x t r) same.1 one;
    }

-- a phrase's first operand
pub record OperandAt (role : Role) (room k : ℕ) (ts : List Terminal) (o : Tree) (left : List Terminal) : Type 0 where
  pub spells : Spells role ts o left
  pub operand : IsOperand o
  pub level : level o ≤ k
  pub height : height o ≤ room
  pub ends : EndsLastOperand o left

operand_of : (role : Role) (room k : ℕ) (ts : List Terminal) (t : Tree) (r : List Terminal)
    (p : Phrase role room k ts t r)
    → (o : Tree) × (left : List Terminal) × OperandAt role room k ts o left × HasLeftEdge role o left t r
operand_of role room k ts t r p =
    let f = first_operand role ts t r p.spells (ends_phrase k t r p.level p.stops) in
    let low = p.level in
    let high = p.height in
    let first_low = f.2.level in
    let first_high = f.2.height in
    (f.0, f.1, record { spells = f.2.spells; operand = f.2.operand; level = omega arith; height = omega arith; ends = f.2.ends }, f.2.extends)

pub never_first : (role : Role) (room k : ℕ) (ts : List Terminal)
    → ((o : Tree) (left : List Terminal) → OperandAt role room k ts o left → ⊥) → NoPhrase role room k ts
never_first role room k ts none t r p =
    let f = operand_of role room k ts t r p in
    none f.0 f.1 f.2

pub begins_first : (role : Role) (room k : ℕ) (ts : List Terminal) (o : Tree) (left : List Terminal)
    → Spells role ts o left → level o ≤ k → height o ≤ room
    → ((o' : Tree) (left' : List Terminal) → OperandAt role room k ts o' left' → (o' ≡ o) × (left' ≡ left))
    → PhrasesGoOnFrom role room k ts o left
begins_first role room k ts o left spells low high only = record {
  spells = spells;
  level = low;
  height = high;
  all = λ t r p.
      let f = operand_of role room k ts t r p in
      let same = only f.0 f.1 f.2 in
      let one = subst (λ (x : Tree). HasLeftEdge role x f.1 t r) same.0 f.3 in
      subst (λ (x : List Terminal). HasLeftEdge role o x t r) same.1 one;
}
