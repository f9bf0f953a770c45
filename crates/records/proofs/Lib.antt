mod RecordLaws
