-- What a secret key is in our definitions: the contents of its record.
use Rattle.records.specs.Records.{SecretRecord}
use Rattle.records.specs.declared.SecretKey.{SecretKey}

abbrev pub contents : SecretKey → SecretRecord
contents k = record { type = k.kind; secret = k.secret; prfkey = k.prfkey; public = k.public; root = k.root }
