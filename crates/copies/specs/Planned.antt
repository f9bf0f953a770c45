-- What is written by a plan: a record, the records of a section, a section, the sections of a file.
use Rattle.std.specs.Prelude.{List, ℕ, ◌-◌, eqb}
use Rattle.page.specs.Bytes.{Bytes, pick}
use Rattle.page.specs.Records.{Record}
use Rattle.page.specs.Model.{Content}
use Rattle.page.specs.Form.{record_form, records_form, content_form, tables_form}
use Rattle.copies.specs.Changed.{strips, section_of, record_of, field_of, text_of, changed_values, changed_records, changed_content, changed_tables, kept_records, kept_content, kept_tables}
use Rattle.copies.specs.declared.plan.Change.{Change}
use Rattle.copies.specs.declared.plan.Change.TheVariants as C
use Rattle.copies.specs.declared.plan.Plan.{Plan}

-- the plan of the record, or of the section, after n others: one that is not named is not filled

abbrev pub record_change : Change → ℕ → Change
record_change C.Nothing n = C.Nothing
record_change C.Strip n = C.Strip
record_change (C.Fill x) n = pick (eqb (x.rec - n) 1) (C.Fill x) C.Nothing

abbrev pub section_change : Change → ℕ → Change
section_change C.Nothing n = C.Nothing
section_change C.Strip n = C.Strip
section_change (C.Fill x) n = pick (eqb (x.section - n) 1) (C.Fill x) C.Nothing

unfoldable pub record_plan : Plan → ℕ → Plan
record_plan p n = record { ends = p.ends; stays = p.stays; change = record_change p.change n }

unfoldable pub section_plan : Plan → ℕ → Plan
section_plan p n = record { ends = p.ends; stays = p.stays; change = section_change p.change n }

unfoldable pub record_by : Plan → Record → Bytes
record_by p v = record_form p.ends (changed_values (strips p.change) (field_of p.change) (text_of p.change) v)

-- after n others
unfoldable pub records_by : Plan → ℕ → List Record → Bytes
records_by p n vs =
    records_form p.ends (changed_records (strips p.change) (record_of p.change - n) (field_of p.change) (text_of p.change) (kept_records p.stays vs))

unfoldable pub content_by : Plan → Content → Bytes
content_by p c =
    content_form p.ends (changed_content (strips p.change) (record_of p.change) (field_of p.change) (text_of p.change) (kept_content p.stays c))

unfoldable pub tables_by : Plan → ℕ → List Content → Bytes
tables_by p n cs =
    tables_form p.ends
    (changed_tables (strips p.change) (section_of p.change - n) (record_of p.change) (field_of p.change) (text_of p.change) (kept_tables p.stays cs))
