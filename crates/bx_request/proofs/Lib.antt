mod LeftFiles
