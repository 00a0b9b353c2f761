-- Where the cells of developer fields are under the definitions in force.
use Rattle.std.specs.Prelude.{◌≡◌, ℕ, zero, suc, ◌+◌, ◌<◌, ◌≤◌, Bool, List, [], ◌∷◌, ◌++◌, length, take, drop, map, sum_by, slice_index_or, Option, Some, None, codes}
use Rattle.fit_base.specs.declared.order.Arch.{Arch}
use Rattle.fit_base.specs.Value.{values_of}
use Rattle.fit_grammar.specs.declared.definition.Definition.{Definition}
use Rattle.fit_grammar.specs.declared.definition.DeveloperFieldDefinition.{DeveloperFieldDefinition}
use Rattle.fit_grammar.specs.Format.Item.{fields_size}
use Rattle.fit_grammar.specs.Format.Message.{developer_of}
use Rattle.fit_table.specs.declared.named.NamedCell.{NamedCell}
use Rattle.fit_table.specs.declared.named.NamedPlan.{NamedPlan}
use Rattle.fit_table.specs.declared.named.NamedPlans.{NamedPlans}
use Rattle.fit_table.specs.declared.unit.Unit.TheVariants.{Whole}
use Rattle.fit_table.specs.Described.{Description, described_in}
use Rattle.fit_table.specs.Lookup.{at}
use Rattle.fit_table.specs.Named.{ReadField, read_cell, read_in}
use Rattle.fit_table.specs.Tokens.{Token, Text}

-- the descriptions of the developer fields of a definition, for a message in this place
abbrev pub told_by : List Description → ℕ → List DeveloperFieldDefinition → List (Option Description)
told_by known place fields = map (λ field. described_in known place field.index field.number) fields

-- what a cell holds in a content
abbrev pub read_at : NamedCell → Arch → List ℕ → ReadField
read_at cell arch content =
    record {
      base = cell.base;
      unit = cell.unit;
      values =
          values_of (record {
            base = cell.base;
            arch = arch;
            bytes = take cell.size (drop cell.at content);
          });
    }

-- the cell of the first of these fields that has the name; they begin at this place of a content
pub record IsNamedCell (told : List (Option Description)) (fields : List DeveloperFieldDefinition)
    (start : ℕ) (name : List ℕ) (cell : NamedCell) : Type 0 where
  pub inside : cell.at + cell.size ≤ start + sum_by (λ field. field.size) fields
  pub holds : (arch : Arch) (content : List ℕ)
      → read_in told name (developer_of arch fields (drop start content)) ≡ read_at cell arch content

-- a cell that shows the same; one without bytes shows nothing, whatever its field is
pub record IsShownCell (told : List (Option Description)) (fields : List DeveloperFieldDefinition)
    (start : ℕ) (name : List ℕ) (cell : NamedCell) : Type 0 where
  pub inside : cell.at + cell.size ≤ start + sum_by (λ field. field.size) fields
  pub shows : (raw : Bool) (arch : Arch) (content : List ℕ)
      → read_cell raw (read_in told name (developer_of arch fields (drop start content)))
      ≡ read_cell raw (read_at cell arch content)

abbrev pub AreNamedCells : List (Option Description) → List DeveloperFieldDefinition → ℕ
    → List (List ℕ) → List NamedCell → Type 0
AreNamedCells told fields start [] [] = Unit {0}
AreNamedCells told fields start (name ∷ names) (cell ∷ cells) =
    IsShownCell told fields start name cell × AreNamedCells told fields start names cells
AreNamedCells told fields start _ _ = ⊥

-- cells that can be read in a content of this length
abbrev pub AreNamedIn : ℕ → List NamedCell → Type 0
AreNamedIn size [] = Unit {0}
AreNamedIn size (cell ∷ cells) = (cell.at + cell.size ≤ size) × AreNamedIn size cells

-- cells after so many without bytes
abbrev pub after_gap : ℕ → List NamedCell → List NamedCell
after_gap zero cells = cells
after_gap (suc n) cells =
    record { at = 0; unit = Whole; size = 0; base = 0; gap = 0 } ∷ after_gap n cells

-- all cells, where those are left out that have no bytes
abbrev pub spread : List NamedCell → ℕ → List NamedCell
spread [] rest = after_gap rest []
spread (cell ∷ cells) rest = after_gap cell.gap (cell ∷ spread cells rest)

-- the plan of a definition's messages, for one in this place
abbrev pub AreCellsFor : List Description → List (List ℕ) → ℕ → Definition → NamedPlan → Type 0
AreCellsFor known names place d plan =
    AreNamedCells (told_by known place d.developer.items) d.developer.items (fields_size d) names
    (spread plan.cells.items plan.rest)

-- so many of the descriptions stand before the message in this place
pub record ArePassed (known : List Description) (place passed : ℕ) : Type 0 where
  pub before : (k : ℕ) → k < passed → (at known k).place < place
  pub after : (k : ℕ) → passed ≤ k → k < length known → place ≤ (at known k).place

-- each local number's plan, if it has one, is for its definition in force and the message in this place
pub record AreNamedFor (known : List Description) (names : List (List ℕ)) (place : ℕ)
    (definition_for : ℕ → Option Definition) (plans : NamedPlans) : Type 0 where
  pub passed : ArePassed known place plans.passed
  pub are : (local : ℕ) (d : Definition) (plan : NamedPlan)
      → slice_index_or plans.slots local None ≡ Some plan → definition_for local ≡ Some d
      → AreCellsFor known names place d plan

-- the cells of a content, each after a comma
abbrev pub tokens_of : Bool → List NamedCell → Arch → List ℕ → List Token
tokens_of raw [] arch content = []
tokens_of raw (cell ∷ cells) arch content =
    Text (codes ",") ∷ (read_cell raw (read_at cell arch content) ++ tokens_of raw cells arch content)
